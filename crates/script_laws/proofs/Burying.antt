-- Destructions that go on from turn to turn.
use Rattle.std.proofs.lemmas.Bool.{cases_Bool}
use Rattle.std.proofs.lemmas.Bool.Decides.{nat_tests}
use Rattle.std.proofs.Common.{◌≡◌, ◌≢◌, ℕ, ◌<◌, ◌==◌, ◌||◌, not, nat_lt, if◌then◌else◌, true, false, arith, Bool, List, [], ◌∷◌, ◌++◌, length, Option, Some, None, Result, Ok, Err, refl, sym, ap, ◌∙◌, subst, inl, inr}
use Rattle.xp_words.specs.declared.place.Place.TheVariants.{Life}
use Rattle.xp_words.specs.declared.reply.LogLine.{LogLine}
use Rattle.xp_words.specs.declared.reply.Refusal.{Refusal}
use Rattle.xp_words.specs.declared.reply.Refusal.TheVariants.{Dying, NoDomain, NoPrivilege}
use Rattle.xp_words.specs.declared.reply.Stop.{Stop}
use Rattle.xp_words.specs.declared.reply.Stop.TheVariants.{Refused, Paused}
use Rattle.xp_board.specs.Readings.{domain_of, has_now}
use Rattle.xp_words.specs.declared.reply.Refusal.TheVariants as refusals
use Rattle.xp_board.specs.Told.{Post, PortValue, told_word}
use Rattle.step_maker.specs.Holds.{Rests}
use Rattle.step_maker.specs.Moves.{Came}
use Rattle.step_maker.proofs.Coming.{came_post, came_trans}
use Rattle.answer_laws.proofs.Shared.{alone_telling}
use Rattle.replay_laws.specs.LeftAlone.{life}
use Rattle.replay_laws.proofs.Keeping.{left_alone}
use Rattle.domain_destroy.specs.Asking.{of_domain, IsDestroyStop}
use Rattle.domain_destroy.specs.Course.{LeftFrame, left_lines}
use Rattle.script_law.specs.Destroying.{buried, destroy, destroy_refusal, stripped}
use Rattle.script_law.specs.Repeats.{each_below}
use Rattle.script_law.specs.Scripts.{Answered, once}
use Rattle.script_law.specs.Values.{Left, Line, Outcome, Solo, Whose, allowed, put_at}
use Rattle.solo_deaths.specs.Dying.{AreLeft, ComesDying, GoesOnDying}
use Rattle.solo_deaths.proofs.Ending.{begins_dying, by_course}
use Rattle.solo_pins.proofs.Meaning.{Laws}
use Rattle.solo_ports.specs.Standing.{IsSettled, Owes, nothing, whose}
use Rattle.course_laws.proofs.Awaiting.{NeitherLostNorBusy}
use Rattle.vcpu_turn.specs.Cpus.{begun, reply_of}
use Rattle.vcpu_turn.specs.Destroying.{WentOnDestroying, done_behind}
use Rattle.vcpu_turn.specs.declared.cpu.Progress.{Progress}
use Rattle.vcpu_turn.proofs.Destroyed.{destroyed_came}
use Rattle.script_laws.specs.Logged.{AreLines}
use Rattle.script_laws.proofs.Settling.{owes_clean, stands_in}
use Rattle.script_laws.proofs.Tasking.{Elements, Moving, owes_moved}
use Rattle.script_laws.proofs.Tasks.{Comes, IsTaskAnswered, Lives, OwesT}
use Rattle.script_laws.proofs.Single.{done_once, refused_once}
use Rattle.script_laws.proofs.Knowing.{shows_for}
use Rattle.shown_words.specs.Shown.{ShowsSettled}
use Rattle.std.specs.Prelude.{IfErr}

-- ---- lines of frames that are left
pub left_are_lines : (op : ℕ) (xs : List LeftFrame) (ls : List Line) → AreLeft xs ls → AreLines op (left_lines op xs) ls
left_are_lines op [] [] a = tt
left_are_lines op [] (y ∷ ls) a = absurd a
left_are_lines op (x ∷ xs) [] a = absurd a
left_are_lines op (x ∷ xs) (Left f s ∷ ls) a = ((refl, a.0.0, a.0.1), left_are_lines op xs ls a.1)
left_are_lines op (x ∷ xs) (y ∷ ls) a = absurd a.0

-- ---- the own domain lives on
lives_by : (own x : ℕ) (s : Solo) (r : Option Refusal) (o : Outcome) → s.lives own ≡ 0 → o.left.lives own ≡ 0 → (allowed r s o).left.lives own ≡ 0
lives_by own x s None o a b = b
lives_by own x s (Some y) o a b = a

other_kept : (own x y : ℕ) (l : ℕ → ℕ) → (own == x) ≡ false → put_at x y l own ≡ l own
other_kept own x y l off = rw off refl

-- its own domain is refused
refuses_own : (w : Whose) (x : ℕ) (s : Solo) → (x == w.domain) ≡ true → destroy_refusal w x s ≡ None → ⊥
refuses_own w x s own none = elim (cases_Bool (nat_lt x (length w.machine.page_limit))) [
  | inl real ↦ (let k = subst (λ b. (if not b then Some NoDomain else if (x == w.domain) || not (has_now x (s.privileges w.domain)) then Some (NoPrivilege w.domain x) else if not (s.lives x == 0) then Some (Dying x (s.lives x)) else None) ≡ None) real none in
      let j = subst (λ b. (if b || not (has_now x (s.privileges w.domain)) then Some (NoPrivilege w.domain x) else if not (s.lives x == 0) then Some (Dying x (s.lives x)) else None) ≡ None) own k in absurd cc)
  | inr beyond ↦ absurd (let k = subst (λ b. (if not b then Some NoDomain else if (x == w.domain) || not (has_now x (s.privileges w.domain)) then Some (NoPrivilege w.domain x) else if not (s.lives x == 0) then Some (Dying x (s.lives x)) else None) ≡ None) beyond none in cc)
]

left_refused : (s : Solo) (r : Option Refusal) (o : Outcome) → (r ≡ None → ⊥) → (allowed r s o).left ≡ s
left_refused s None o some = absurd (some refl)
left_refused s (Some y) o some = refl

destroy_lives : (w : Whose) (x : ℕ) (s : Solo) → s.lives w.domain ≡ 0 → (destroy w x s).left.lives w.domain ≡ 0
destroy_lives w x s alive = elim (cases_Bool (x == w.domain)) [
  | inl own ↦ ap (λ (t : Solo). t.lives w.domain) (left_refused s (destroy_refusal w x s) (buried w.machine x (each_below w.machine.frames (stripped x) s.frames) s) (refuses_own w x s own)) ∙ alive
  | inr off ↦ (
      let apart : (w.domain == x) ≡ false = grind (arith, nat_tests) in
      lives_by w.domain x s (destroy_refusal w x s) (buried w.machine x (each_below w.machine.frames (stripped x) s.frames) s) alive (other_kept w.domain x 255 s.lives apart ∙ alive)
      )
]

-- ---- what is left of a destruction
module _ (l : Laws) (neither : NeitherLostNorBusy) (v0 : PortValue) (real : (whose v0).domain < length v0.post.machine.page_limit) (e : Elements l neither v0) where
  pub record Dies (x n : ℕ) (at : Progress) (made : List LogLine) (v : PortValue) (a : Answered) : Type 0 where
    pub value : Solo
    pub owes : OwesT l.stays neither v0 v value
    pub outcome : Outcome
    pub goes_on : GoesOnDying (whose v0) x n at.place [] made value outcome
    pub is : once outcome ≡ a
    pub unset : at.done ≡ 0
    pub ends : outcome.left.lives (whose v0).domain ≡ 0

  pub dies_begins : (x n : ℕ) (v : PortValue) (s : Solo) → OwesT l.stays neither v0 v s → Dies x n begun [] v (once (destroy (whose v0) x s))
  dies_begins x n v s owes = record { value = s; owes = owes; outcome = destroy (whose v0) x s; goes_on = begins_dying (whose v0) x n [] s; is = refl; unset = refl; ends = destroy_lives (whose v0) x s owes.ahead.good }

  pub dies_moved : (x n : ℕ) (at : Progress) (made : List LogLine) (v w : PortValue) (a : Answered) → Moving l neither v0 real e v w → Dies x n at made v a → Dies x n at made w a
  dies_moved x n at made v w a m g = record { value = g.value; owes = owes_moved l neither v0 real e (Lives l.stays neither v0) v w g.value m g.owes; outcome = g.outcome; goes_on = g.goes_on; is = g.is; unset = g.unset; ends = g.ends }

  module _ (x n : ℕ) (at to : Progress) (made log log' : List LogLine) (v w : PortValue) (a : Answered) (asked : List Bool) (r : Result ℕ Stop) (went : WentOnDestroying x n v at to w log log' asked r) (g : Dies x n at made v a) where
    came : Came v w
    came = destroyed_came went

    post : v.post ≡ v0.post
    post = came_post v0 v g.owes.ahead.came

    post_w : w.post ≡ v0.post
    post_w = came_post v0 w (came_trans v0 v w g.owes.ahead.came came)

    done_is : to.done ≡ done_behind at.done r
    done_is = ap (λ (p : Progress). p.done) went.to_is

    -- the life word of the own domain stays
    own_life : (whose w).domain ≢ x → told_word w (Life (whose v0).domain) ≡ told_word v (Life (whose v0).domain)
    own_life apart =
        left_alone v w (of_domain v.post.machine x true) _ (Life (whose v0).domain) (alone_telling v (stands_in l.stays neither v g.value g.owes.owes).alone) (went.destroyed.serves.serves true (λ due. refl))
        (life (whose v0).domain (λ is. apart (let same : x ≡ (whose v0).domain = cc in ap (λ (p : Post). domain_of p.machine p.vcpu) post_w ∙ sym same)))

    alive_behind : (s : Solo) → Owes w s → (whose w).domain ≢ x → s.lives (whose v0).domain ≡ 0
    alive_behind s owes apart =
        let there = stands_in l.stays neither w s owes in
        let here = stands_in l.stays neither v g.value g.owes.owes in
        there.others.lives (whose v0).domain (subst (λ (p : Post). (whose v0).domain < length p.machine.page_limit) (sym post_w) real) ∙ own_life apart
        ∙ sym (here.others.lives (whose v0).domain (subst (λ (p : Post). (whose v0).domain < length p.machine.page_limit) (sym post) real)) ∙ g.owes.ahead.good

    owed : (s : Solo) → Owes w s → s.lives (whose v0).domain ≡ 0 → OwesT l.stays neither v0 w s
    owed s owes alive = record { ahead = record { came = came_trans v0 v w g.owes.ahead.came came; good = alive }; owes = owes }

    abbrev pub DiesComes : List LogLine → Result ℕ Stop → Type 0
    DiesComes all y = Comes l.stays neither v0 (λ to made w. Dies x n to made w a) n to all w a y

    -- a refusal of it shows no word of a frame
    shows_none : (y : Refusal) → IsDestroyStop (Refused y) → ShowsSettled y
    shows_none (refusals.NoDomain) kind = tt
    shows_none (refusals.NoPrivilege a b) kind = tt
    shows_none (refusals.Dying a b) kind = tt
    shows_none _ kind = absurd kind

    comes_so : (all : List LogLine) (y : Result ℕ Stop) → IfErr y IsDestroyStop → to.done ≡ done_behind at.done y → ComesDying w x n to.place [] all g.outcome y → DiesComes all y
    comes_so all (Ok left) kind is c =
        subst (IsTaskAnswered l.stays neither v0 n all w (reply_of to.done left None)) (sym (done_once g.outcome g.outcome.refusal c.fine) ∙ g.is)
        (record { lines = subst (λ ls. AreLines n ls g.outcome.lines) (sym c.logged) (left_are_lines n c.made g.outcome.lines c.lines); replies = record { done = is; value = c.value; refusal = tt }; owes = owed g.outcome.left (nothing c.clean) g.ends })
    comes_so all (Err (Refused y)) kind is c =
        subst (IsTaskAnswered l.stays neither v0 n all w (reply_of to.done 0 (Some y))) (sym (refused_once g.outcome g.outcome.refusal c.0.why c.0.is) ∙ g.is)
        (record {
          lines = subst (λ ls. AreLines n ls g.outcome.lines) (sym c.1) (subst (AreLines n []) (sym c.0.none) tt);
          replies = record { done = is ∙ g.unset; value = refl; refusal = (c.0.same, shows_for y c.0.why (shows_none y kind)) };
          owes = owed g.outcome.left c.0.owes g.ends;
        })
    comes_so all (Err (Paused p)) kind is c =
        record {
          value = c.s;
          owes = owed c.s c.owes (alive_behind c.s c.owes c.apart);
          outcome = g.outcome;
          goes_on = subst (λ (q : Post). GoesOnDying (record { machine = q.machine; domain = domain_of q.machine q.vcpu }) x n to.place [] all c.s g.outcome) post_w c.goes_on;
          is = g.is;
          unset = is ∙ g.unset;
          ends = g.ends;
        }

    pub dies_work : Rests v → IsSettled v → (new : List LogLine) × (log' ≡ log ++ new) × DiesComes (made ++ new) r
    dies_work rests settled =
        let d = went.destroyed in
        let clean = owes_clean v g.value rests settled g.owes.owes in (
          left_lines n d.more,
          d.lines,
          comes_so (made ++ left_lines n d.more) r d.kinds done_is
              (by_course l.stays neither l.release l.paused v g.value clean x n at.place [] made g.outcome (subst (λ (q : Post). GoesOnDying (record { machine = q.machine; domain = domain_of q.machine q.vcpu }) x n at.place [] made g.value g.outcome) (sym post) g.goes_on)
              w to.place (made ++ left_lines n d.more) d.more asked r refl d.rests d.serves d.course),
        )
