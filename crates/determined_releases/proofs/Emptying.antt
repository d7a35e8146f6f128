-- The words of a stopped vCPU are emptied, and what they named is let go: by what is found.
use Rattle.std.proofs.Common.{◌≡◌, ◌+◌, ◌<◌, ◌≤◌, ◌++◌, ℕ, Bool, List, [], None, Result, Ok, Err, length, refl, sym, ap, ◌∙◌, subst, arith}
use Rattle.xp_words.specs.declared.place.Place.TheVariants.{Vcpu}
use Rattle.xp_words.specs.declared.reply.Stop.{Stop}
use Rattle.xp_preempt.specs.Gates.{GivesAnswers, asks_on}
use Rattle.xp_board.specs.Told.{PortValue}
use Rattle.xp_board.specs.declared.step.Act.TheVariants.{Store}
use Rattle.xp_board.specs.declared.step.StepKind.TheVariants as steps
use Rattle.step_maker.specs.Moves.{Came, Moves}
use Rattle.step_maker.proofs.Coming.{came_self, came_trans}
use Rattle.level_release.specs.Course.{Settled}
use Rattle.domain_destroy.specs.Emptying as emptying
use Rattle.domain_destroy.specs.Emptying.{EmptiesOne, EmptiesTo, EmptiesWord, EmptiesWords, LetsGo, word_at}
use Rattle.determined_laws.specs.Courses.{Alike}
use Rattle.determined_laws.proofs.Courses.{Goes, alike_map, alike_move, alike_same, goes_same, more, none}
use Rattle.determined_laws.proofs.Waits.{up_same}
use Rattle.determined_releases.proofs.Answers.{gives_first, gives_rest}
use Rattle.determined_releases.proofs.Calls.{alike_split, alike_step, alike_with, move_came, move_on}
use Rattle.determined_releases.proofs.Settled.{none_named, settled_alike, settled_came}

abbrev pub Done : Type 0
Done = Result (Unit {0}) Stop

-- ---- a reference in hand is let go
pub lets_go_came : (f : ℕ) (u w : PortValue) (answers : List Bool) (a : Done) → LetsGo f u w answers a → Came u w
lets_go_came f u w answers a p = move_on w p.1 (settled_came p.2)

module _ (says : ℕ → Bool) (n : ℕ) {answers others : List Bool} {a b : Done} (g : GivesAnswers says n answers) (h : GivesAnswers says n others) where
  pub lets_go_alike : (f : ℕ) (u w x : PortValue) → LetsGo f u w answers a → LetsGo f u x others b → Alike u w x ((answers ≡ others) × (a ≡ b))
  lets_go_alike f u w x p q =
      alike_step p.1 q.1 (settled_came p.2) (settled_came q.2) (λ e m. alike_map (settled_alike says n g h p.2 (subst (λ z. Settled None z x others b) (sym e) q.2)) (λ s. (s.0, s.1)))

-- ---- one word
pub word_came : (vcpu k : ℕ) (u w : PortValue) (answers : List Bool) (a : Done) → EmptiesWord vcpu k u w answers a → Came u w
word_came vcpu k u w answers a (emptying.EmptiesWord.empty _ look) = move_came look
word_came vcpu k u w answers a (emptying.EmptiesWord.meanwhile o _ x look some store) = move_on w look (move_came store)
word_came vcpu k u w answers a (emptying.EmptiesWord.named o p _ x f _ _ look some store go) = move_on w look (move_on w store (lets_go_came f p w answers a go))

module _ (says : ℕ → Bool) (n vcpu k : ℕ) (u : PortValue) where
  pub word_alike : (w x : PortValue) (answers others : List Bool) (a b : Done) → GivesAnswers says n answers → GivesAnswers says n others → EmptiesWord vcpu k u w answers a → EmptiesWord vcpu k u x others b →
      Alike u w x ((answers ≡ others) × (a ≡ b))
  word_alike w x _ _ _ _ g h (emptying.EmptiesWord.empty _ look) (emptying.EmptiesWord.empty _ sees) = alike_map (alike_move look sees) (λ e. (refl, refl))
  word_alike w x _ _ _ _ g h (emptying.EmptiesWord.empty _ look) (emptying.EmptiesWord.meanwhile o _ y sees some store) = alike_split look sees (came_self w) (move_came store) (λ e. some (sym e))
  word_alike w x _ _ _ _ g h (emptying.EmptiesWord.empty _ look) (emptying.EmptiesWord.named o p _ y f others b sees some store go) =
      alike_split look sees (came_self w) (move_on x store (lets_go_came f p x others b go)) (λ e. some (sym e))
  word_alike w x _ _ _ _ g h (emptying.EmptiesWord.meanwhile o _ y look some store) (emptying.EmptiesWord.empty _ sees) = alike_split look sees (move_came store) (came_self x) some
  word_alike w x _ _ _ _ g h (emptying.EmptiesWord.meanwhile o _ y look some store) (emptying.EmptiesWord.meanwhile p _ z sees other puts) =
      alike_step look sees (move_came store) (move_came puts) (λ e m. alike_map (alike_move store (subst (λ c. Moves c x (Vcpu vcpu k) (Store 0) steps.Context None 0) (sym e) puts)) (λ s. (refl, refl)))
  word_alike w x _ _ _ _ g h (emptying.EmptiesWord.meanwhile o _ y look some store) (emptying.EmptiesWord.named p q _ z f others b sees other puts go) =
      alike_step look sees (move_came store) (move_on x puts (lets_go_came f q x others b go))
      (λ e m. alike_split store (subst (λ c. Moves c q (Vcpu vcpu k) (Store 0) steps.Context None (f + 1)) (sym e) puts) (came_self w) (lets_go_came f q x others b go) (none_named f))
  word_alike w x _ _ _ _ g h (emptying.EmptiesWord.named o p _ y f answers a look some store go) (emptying.EmptiesWord.empty _ sees) =
      alike_split look sees (move_on w store (lets_go_came f p w answers a go)) (came_self x) some
  word_alike w x _ _ _ _ g h (emptying.EmptiesWord.named o p _ y f answers a look some store go) (emptying.EmptiesWord.meanwhile q _ z sees other puts) =
      alike_step look sees (move_on w store (lets_go_came f p w answers a go)) (move_came puts)
      (λ e m. alike_split store (subst (λ c. Moves c x (Vcpu vcpu k) (Store 0) steps.Context None 0) (sym e) puts) (lets_go_came f p w answers a go) (came_self x) (λ s. none_named f (sym s)))
  word_alike w x _ _ _ _ g h (emptying.EmptiesWord.named o p _ y f answers a look some store go) (emptying.EmptiesWord.named q r _ z m others b sees other puts goes) =
      alike_step look sees (move_on w store (lets_go_came f p w answers a go)) (move_on x puts (lets_go_came m r x others b goes))
      (λ e s. alike_step store (subst (λ c. Moves c r (Vcpu vcpu k) (Store 0) steps.Context None (m + 1)) (sym e) puts) (lets_go_came f p w answers a go) (lets_go_came m r x others b goes)
      (λ c t. lets_go_alike says n g h f p w x go (subst (λ i. LetsGo f i x others b) (sym c) (subst (λ i. LetsGo i r x others b) (sym (up_same f m t)) goes))))

-- ---- all words of one vCPU, in order
record Place : Type 0 where
  pub port : PortValue
  pub index : ℕ
  pub answers : List Bool
  pub result : Done

place_same : (s t : Place) → s.port ≡ t.port → s.index ≡ t.index → s.answers ≡ t.answers → s.result ≡ t.result → s ≡ t
place_same s t a b c d = rw (a, b, c, d) refl

abbrev place : PortValue → ℕ → List Bool → Done → Place
place v i answers r = record { port = v; index = i; answers = answers; result = r }

pub words_came : (vcpu : ℕ) (u : PortValue) (i : ℕ) (w : PortValue) (answers : List Bool) (a : Done) → EmptiesWords vcpu u i w answers a → Came u w
words_came vcpu u _ _ _ _ emptying.EmptiesWords.none = came_self u
words_came vcpu u _ _ _ _ (emptying.EmptiesWords.one_more i x w answers asked a before one) =
    came_trans u x w (words_came vcpu u i x answers (Ok tt) before) (word_came vcpu (word_at i) x w asked a one)

to_came : (vcpu : ℕ) (u w : PortValue) (answers : List Bool) (a : Done) → EmptiesTo vcpu u w answers a → Came u w
to_came vcpu u w answers (Ok done) p = words_came vcpu u 34 w answers (Ok tt) p
to_came vcpu u w answers (Err e) p = words_came vcpu u p.0 w answers (Err e) p.2

-- where all are emptied, or one stopped it, it does not go on
data Finished : ℕ → Done → Type 0 where
  all_of_them : (r : Done) → Finished 34 r
  at_stop : (i : ℕ) (stop : Stop) → Finished i (Err stop)

module _ (says : ℕ → Bool) (n vcpu : ℕ) where
  record Next (s t : Place) : Type 0 where
    pub going : s.result ≡ Ok tt
    pub few : s.index < 34
    pub on : t.index ≡ s.index + 1
    pub asked : List Bool
    pub one : EmptiesWord vcpu (word_at s.index) s.port t.port asked t.result
    pub answers : t.answers ≡ asked ++ s.answers
    pub gives : GivesAnswers says n (asked ++ s.answers)

  next_came : (s t : Place) → Next s t → Came s.port t.port
  next_came s t p = word_came vcpu (word_at s.index) s.port t.port p.asked t.result p.one

  next_alike : (s t u : Place) → Next s t → Next s u → Alike s.port t.port u.port (t ≡ u)
  next_alike s t u p q =
      alike_with (word_alike says (asks_on (length s.answers) n) vcpu (word_at s.index) s.port t.port u.port p.asked q.asked t.result u.result (gives_rest says n s.answers p.asked p.gives) (gives_rest says n s.answers q.asked q.gives) p.one q.one)
      (λ same e. place_same t u same (p.on ∙ sym q.on) (p.answers ∙ (ap (λ z. z ++ s.answers) e.0 ∙ sym q.answers)) e.1)

  no_more : {A : Type 0} (w : PortValue) (i : ℕ) (answers : List Bool) (r : Done) (k : Place) → Finished i r → Next (place w i answers r) k → A
  no_more w _ answers _ k (all_of_them r) p = absurd (let few = p.few in omega (arith, few))
  no_more w _ answers _ k (at_stop i stop) p = absurd (let e = p.going in cc)

  module _ (u : PortValue) where
    words_goes : (i : ℕ) → i ≤ 34 → (w : PortValue) (answers : List Bool) (a : Done) → EmptiesWords vcpu u i w answers a → GivesAnswers says n answers → Goes Next (place u 0 [] (Ok tt)) (place w i answers a)
    words_goes _ few _ _ _ emptying.EmptiesWords.none g = none
    words_goes _ few _ _ _ (emptying.EmptiesWords.one_more i x w answers asked a before one) g =
        more (place x i answers (Ok tt)) (place w (i + 1) (asked ++ answers) a) (words_goes i (omega (arith, few)) x answers (Ok tt) before (gives_first says n answers asked g))
        (record { going = refl; few = omega (arith, few); on = refl; asked = asked; one = one; answers = refl; gives = g })

    words_alike : (w x : PortValue) (i j : ℕ) (answers others : List Bool) (a b : Done) → i ≤ 34 → j ≤ 34 → Finished i a → Finished j b → GivesAnswers says n answers → GivesAnswers says n others →
        EmptiesWords vcpu u i w answers a → EmptiesWords vcpu u j x others b → Alike u w x ((answers ≡ others) × (a ≡ b))
    words_alike w x i j answers others a b few less ended out g h p q =
        alike_map (goes_same Next (λ s. s.port) next_came next_alike (place u 0 [] (Ok tt)) (place w i answers a) (place x j others b) (λ k s. no_more w i answers a k ended s) (λ k s. no_more x j others b k out s)
        (words_goes i few w answers a p g) (words_goes j less x others b q h)) (λ e. (ap (λ (z : Place). z.answers) e, ap (λ (z : Place). z.result) e))

    to_alike : (w x : PortValue) (answers others : List Bool) (a b : Done) → GivesAnswers says n answers → GivesAnswers says n others → EmptiesTo vcpu u w answers a → EmptiesTo vcpu u x others b → Alike u w x ((answers ≡ others) × (a ≡ b))
    to_alike w x answers others (Ok done) (Ok did) g h p q = words_alike w x 34 34 answers others (Ok tt) (Ok tt) (omega arith) (omega arith) (all_of_them (Ok tt)) (all_of_them (Ok tt)) g h p q
    to_alike w x answers others (Ok done) (Err e) g h p q = words_alike w x 34 q.0 answers others (Ok tt) (Err e) (omega arith) q.1 (all_of_them (Ok tt)) (at_stop q.0 e) g h p q.2
    to_alike w x answers others (Err e) (Ok did) g h p q = words_alike w x p.0 34 answers others (Err e) (Ok tt) p.1 (omega arith) (at_stop p.0 e) (all_of_them (Ok tt)) g h p.2 q
    to_alike w x answers others (Err e) (Err s) g h p q = words_alike w x p.0 q.0 answers others (Err e) (Err s) p.1 q.1 (at_stop p.0 e) (at_stop q.0 s) g h p.2 q.2

-- ---- one vCPU
pub one_came : (d vcpu : ℕ) (u w : PortValue) (answers : List Bool) (a : Result Bool Stop) → EmptiesOne d vcpu u w answers a → Came u w
one_came d vcpu u _ _ _ (emptying.EmptiesOne.other off) = came_self u
one_came d vcpu u _ _ _ (emptying.EmptiesOne.emptied w answers is p) = to_came vcpu u w answers (Ok tt) p
one_came d vcpu u _ _ _ (emptying.EmptiesOne.stopped w answers e is p) = to_came vcpu u w answers (Err e) p

module _ (says : ℕ → Bool) (n d vcpu : ℕ) (u : PortValue) where
  done_on : {A : Type 0} (e : Stop) → ◌≡◌ {A = Done} (Ok tt) (Err e) → A
  done_on e s = absurd cc

  same_stop : (e s : Stop) → ◌≡◌ {A = Done} (Err e) (Err s) → ◌≡◌ {A = Result Bool Stop} (Err e) (Err s)
  same_stop e s t = cc

  pub one_alike : (w x : PortValue) (answers others : List Bool) (a b : Result Bool Stop) → GivesAnswers says n answers → GivesAnswers says n others → EmptiesOne d vcpu u w answers a → EmptiesOne d vcpu u x others b →
      Alike u w x ((answers ≡ others) × (a ≡ b))
  one_alike _ _ _ _ _ _ g h (emptying.EmptiesOne.other off) (emptying.EmptiesOne.other out) = alike_same refl (refl, refl)
  one_alike _ _ _ _ _ _ g h (emptying.EmptiesOne.other off) (emptying.EmptiesOne.emptied x others is q) = absurd (off is)
  one_alike _ _ _ _ _ _ g h (emptying.EmptiesOne.other off) (emptying.EmptiesOne.stopped x others e is q) = absurd (off is)
  one_alike _ _ _ _ _ _ g h (emptying.EmptiesOne.emptied w answers is p) (emptying.EmptiesOne.other off) = absurd (off is)
  one_alike _ _ _ _ _ _ g h (emptying.EmptiesOne.emptied w answers is p) (emptying.EmptiesOne.emptied x others are q) =
      alike_map (to_alike says n vcpu u w x answers others (Ok tt) (Ok tt) g h p q) (λ e. (e.0, refl))
  one_alike _ _ _ _ _ _ g h (emptying.EmptiesOne.emptied w answers is p) (emptying.EmptiesOne.stopped x others e are q) =
      alike_map (to_alike says n vcpu u w x answers others (Ok tt) (Err e) g h p q) (λ s. done_on e s.1)
  one_alike _ _ _ _ _ _ g h (emptying.EmptiesOne.stopped w answers e is p) (emptying.EmptiesOne.other off) = absurd (off is)
  one_alike _ _ _ _ _ _ g h (emptying.EmptiesOne.stopped w answers e is p) (emptying.EmptiesOne.emptied x others are q) =
      alike_map (to_alike says n vcpu u w x answers others (Err e) (Ok tt) g h p q) (λ s. done_on e (sym s.1))
  one_alike _ _ _ _ _ _ g h (emptying.EmptiesOne.stopped w answers e is p) (emptying.EmptiesOne.stopped x others s are q) =
      alike_map (to_alike says n vcpu u w x answers others (Err e) (Err s) g h p q) (λ t. (t.0, same_stop e s t.1))
