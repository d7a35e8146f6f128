-- A destruction is determined.
use Rattle.std.proofs.Common.{◌≡◌, ◌<◌, ◌≤◌, ◌++◌, ℕ, Bool, List, [], None, Result, Ok, Err, length, refl, sym, ap, ◌∙◌, subst, arith}
use Rattle.xp_words.specs.declared.place.Place.TheVariants.{Life}
use Rattle.xp_words.specs.declared.reply.Stop.{Stop}
use Rattle.xp_preempt.specs.Gates.{GivesAnswers, asks_on}
use Rattle.xp_board.specs.Told.{PortValue, Post}
use Rattle.xp_board.specs.declared.step.Act.TheVariants.{Store}
use Rattle.xp_board.specs.declared.step.StepKind.TheVariants as steps
use Rattle.step_maker.specs.Moves.{Came, Moves}
use Rattle.step_maker.proofs.Coming.{came_post, came_self, came_trans}
use Rattle.domain_destroy.specs.Course as course
use Rattle.domain_destroy.specs.Course.{Advances, Destroys, GoesOn, LeftFrame, own_of}
use Rattle.domain_destroy.specs.declared.place.DestroyAt.{DestroyAt}
use Rattle.domain_destroy.specs.declared.place.DestroyAt.TheVariants.{Lists}
use Rattle.determined_laws.specs.Courses.{Alike}
use Rattle.determined_laws.proofs.Courses.{Goes, alike_apart, alike_map, alike_move, alike_then, goes_same, more, none}
use Rattle.determined_releases.proofs.Advances.{Outcome, advances_alike, advances_came, lists_few}
use Rattle.determined_releases.proofs.Answers.{gives_first, gives_rest}
use Rattle.determined_releases.proofs.Calls.{alike_with, move_came}
use Rattle.determined_releases.proofs.Emptying.{Done}

-- the own domain is one of the machine's
abbrev pub OwnsReal : PortValue → Type 0
OwnsReal v = own_of v.post < length v.post.machine.page_limit

pub goes_on_came : {d : ℕ} {v : PortValue} {at : DestroyAt} (w : PortValue) (to : DestroyAt) (listed : List LeftFrame) (answers : List Bool) (a : Done) → GoesOn d v at w to listed answers a → Came v w
goes_on_came {v = v} _ _ _ _ _ course.GoesOn.begins = came_self v
goes_on_came {v = v} _ _ _ _ _ (course.GoesOn.advances u w by to some listed answers asked a before one) = came_trans v u w (goes_on_came u by some answers (Ok tt) before) (advances_came one)

-- ---- where it stands, with what was listed and answered
record Stand : Type 0 where
  pub port : PortValue
  pub place : DestroyAt
  pub listed : List LeftFrame
  pub answers : List Bool
  pub result : Done

abbrev stand : PortValue → DestroyAt → List LeftFrame → List Bool → Done → Stand
stand v at listed answers r = record { port = v; place = at; listed = listed; answers = answers; result = r }

stand_same : (s t : Stand) → s.port ≡ t.port → s.place ≡ t.place → s.listed ≡ t.listed → s.answers ≡ t.answers → s.result ≡ t.result → s ≡ t
stand_same s t a b c d e = rw (a, b, c, d, e) refl

-- it stopped, or each frame was looked at: it does not go on
data Ended (u : PortValue) : DestroyAt → Done → Type 0 where
  at_end : (frame left : ℕ) → u.post.machine.frames ≤ frame → Ended u (Lists frame left) (Ok tt)
  at_stop : (to : DestroyAt) (e : Stop) → Ended u to (Err e)

module _ (says : ℕ → Bool) (n d : ℕ) where
  record Next (s t : Stand) : Type 0 where
    pub going : s.result ≡ Ok tt
    pub real : OwnsReal s.port
    pub some : List LeftFrame
    pub asked : List Bool
    pub one : Advances d s.port s.place t.port t.place some asked t.result
    pub listed : t.listed ≡ s.listed ++ some
    pub answers : t.answers ≡ asked ++ s.answers
    pub gives : GivesAnswers says n (asked ++ s.answers)

  next_came : (s t : Stand) → Next s t → Came s.port t.port
  next_came s t p = advances_came p.one

  next_alike : (s t u : Stand) → Next s t → Next s u → Alike s.port t.port u.port (t ≡ u)
  next_alike s t u p q =
      alike_with (advances_alike says (asks_on (length s.answers) n) d s.port p.real (gives_rest says n s.answers p.asked p.gives) (gives_rest says n s.answers q.asked q.gives) p.one q.one)
      (λ same e. stand_same t u same (ap (λ (o : Outcome). o.place) e) (p.listed ∙ (ap (λ (o : Outcome). s.listed ++ o.listed) e ∙ sym q.listed))
      (p.answers ∙ (ap (λ (o : Outcome). o.answers ++ s.answers) e ∙ sym q.answers)) (ap (λ (o : Outcome). o.result) e))

  no_more : {A : Type 0} (w : PortValue) (to : DestroyAt) (listed : List LeftFrame) (answers : List Bool) (r : Done) (k : Stand) → Ended w to r → Next (stand w to listed answers r) k → A
  no_more w _ listed answers _ k (at_end frame left all) p =
      absurd (let few = lists_few p.one in omega (arith, few, all))
  no_more w _ listed answers _ k (at_stop to e) p = absurd (let s = p.going in cc)

  module _ (v : PortValue) (at : DestroyAt) (real : OwnsReal v) where
    abbrev start : Stand
    start = stand v at [] [] (Ok tt)

    goes_on : (w : PortValue) (to : DestroyAt) (listed : List LeftFrame) (answers : List Bool) (a : Done) → GoesOn d v at w to listed answers a → GivesAnswers says n answers → Goes Next start (stand w to listed answers a)
    goes_on _ _ _ _ _ course.GoesOn.begins g = none
    goes_on _ _ _ _ _ (course.GoesOn.advances u w by to some listed answers asked a before one) g =
        more (stand u by some answers (Ok tt)) (stand w to (some ++ listed) (asked ++ answers) a) (goes_on u by some answers (Ok tt) before (gives_first says n answers asked g))
        (record {
          going = refl;
          real = subst (λ (q : Post). own_of q < length q.machine.page_limit) (sym (came_post v u (goes_on_came u by some answers (Ok tt) before))) real;
          some = listed;
          asked = asked;
          one = one;
          listed = refl;
          answers = refl;
          gives = g;
        })

    ends_alike : (w x : PortValue) (to by : DestroyAt) (listed some : List LeftFrame) (answers others : List Bool) (a b : Done) → Ended w to a → Ended x by b → GivesAnswers says n answers → GivesAnswers says n others →
        GoesOn d v at w to listed answers a → GoesOn d v at x by some others b → Alike v w x (stand w to listed answers a ≡ stand x by some others b)
    ends_alike w x to by listed some answers others a b ended last g h p q =
        goes_same Next (λ s. s.port) next_came next_alike start (stand w to listed answers a) (stand x by some others b) (λ k s. no_more w to listed answers a k ended s) (λ k s. no_more x by some others b k last s)
        (goes_on w to listed answers a p g) (goes_on x by some others b q h)

-- ---- all of it
pub destroys_came : {d : ℕ} {v w : PortValue} {at to : DestroyAt} {listed : List LeftFrame} {answers : List Bool} {a : Result ℕ Stop} → Destroys d v at w to listed answers a → Came v w
destroys_came (course.Destroys.stops w to listed answers e goes) = goes_on_came w to listed answers (Err e) goes
destroys_came {v = v} (course.Destroys.buries u w frame left found listed answers goes all store) = came_trans v u w (goes_on_came u (Lists frame left) listed answers (Ok tt) goes) (move_came store)

-- the same place, the same frames listed, the same answers of the gate, the same answer
abbrev pub SameEnd : DestroyAt → DestroyAt → List LeftFrame → List LeftFrame → List Bool → List Bool → Result ℕ Stop → Result ℕ Stop → Type 0
SameEnd to by listed some answers others a b = (to ≡ by) × (listed ≡ some) × (answers ≡ others) × (a ≡ b)

err_same : (e s : Stop) → ◌≡◌ {A = Done} (Err e) (Err s) → ◌≡◌ {A = Result ℕ Stop} (Err e) (Err s)
err_same e s t = cc

left_same : (f g l k : ℕ) → Lists f l ≡ Lists g k → ◌≡◌ {A = Result ℕ Stop} (Ok l) (Ok k)
left_same f g l k e = cc

done_apart : {A : Type 0} (s t : Stand) (e : Stop) → s.result ≡ Ok tt → t.result ≡ Err e → s ≡ t → A
done_apart s t e a b c = absurd (let r = sym a ∙ (ap (λ (z : Stand). z.result) c ∙ b) in cc)

pub destroys_alike : {d : ℕ} {v w x : PortValue} {at to by : DestroyAt} {listed some : List LeftFrame} {answers others : List Bool} {a b : Result ℕ Stop} (says : ℕ → Bool) (n : ℕ) → OwnsReal v →
    GivesAnswers says n answers → GivesAnswers says n others → Destroys d v at w to listed answers a → Destroys d v at x by some others b → Alike v w x (SameEnd to by listed some answers others a b)
destroys_alike {d} {v} {at = at} says n real g h (course.Destroys.stops w to listed answers e goes) (course.Destroys.stops x by some others s gone) =
    alike_map (ends_alike says n d v at real w x to by listed some answers others (Err e) (Err s) (at_stop to e) (at_stop by s) g h goes gone)
    (λ t. (ap (λ (z : Stand). z.place) t, ap (λ (z : Stand). z.listed) t, ap (λ (z : Stand). z.answers) t, err_same e s (ap (λ (z : Stand). z.result) t)))
destroys_alike {d} {v} {at = at} says n real g h (course.Destroys.stops w to listed answers e goes) (course.Destroys.buries u x frame left found some others gone all store) =
    alike_apart (came_self w) (move_came store) (ends_alike says n d v at real w u to (Lists frame left) listed some answers others (Err e) (Ok tt) (at_stop to e) (at_end frame left all) g h goes gone)
    (λ t. done_apart (stand u (Lists frame left) some others (Ok tt)) (stand w to listed answers (Err e)) e refl refl (sym t))
destroys_alike {d} {v} {at = at} says n real g h (course.Destroys.buries u w frame left found listed answers goes all store) (course.Destroys.stops x by some others s gone) =
    alike_apart (move_came store) (came_self x) (ends_alike says n d v at real u x (Lists frame left) by listed some answers others (Ok tt) (Err s) (at_end frame left all) (at_stop by s) g h goes gone)
    (λ t. done_apart (stand u (Lists frame left) listed answers (Ok tt)) (stand x by some others (Err s)) s refl refl t)
destroys_alike {d} {v} {at = at} says n real g h (course.Destroys.buries u w frame left found listed answers goes all store) (course.Destroys.buries o x last rest met some others gone whole puts) =
    alike_then (goes_on_came u (Lists frame left) listed answers (Ok tt) goes) (move_came store) (move_came puts)
    (ends_alike says n d v at real u o (Lists frame left) (Lists last rest) listed some answers others (Ok tt) (Ok tt) (at_end frame left all) (at_end last rest whole) g h goes gone)
    (λ same t. alike_map (alike_move store (subst (λ z. Moves z x (Life d) (Store 255) steps.Life None met) (sym same) puts))
    (λ m. (ap (λ (z : Stand). z.place) t, ap (λ (z : Stand). z.listed) t, ap (λ (z : Stand). z.answers) t, left_same frame last left rest (ap (λ (z : Stand). z.place) t))))
