-- One frame is found another's, or no page table nor descriptor page in use; or it is in use.
use Rattle.std.proofs.Common.{◌≡◌, ◌≢◌, ℕ, ◌+◌, ◌<◌, ◌≤◌, ◌&&◌, ◌||◌, ap, is_some, nat_eq, not, Bool, true, false, [], length, None, Some, Option, Ok, Err, Result, IsTrue, refl, sym, ◌∙◌, subst, inl, inr, arith}
use Rattle.std.proofs.lemmas.Bool.{cases_Bool, cases_eq}
use Rattle.std.proofs.lemmas.Bool.Decides.{nat_tests}
use Rattle.std.specs.Option.{option_eq}
use Rattle.xp_words.specs.KindWords.{kind_read}
use Rattle.xp_words.specs.PageTypes.{is_table}
use Rattle.xp_words.specs.Places.{sizes_of}
use Rattle.xp_words.specs.declared.kind.KindWord.{KindWord}
use Rattle.xp_words.specs.declared.kind.PageType.TheVariants.{Desc}
use Rattle.xp_words.specs.declared.place.Place.TheVariants.{Kind, Refs}
use Rattle.xp_words.specs.declared.reply.Pause.TheVariants.{Busy}
use Rattle.xp_words.specs.declared.reply.Stop.{Stop}
use Rattle.xp_words.specs.declared.reply.Stop.TheVariants.{Paused}
use Rattle.xp_board.specs.Acts.{left_by}
use Rattle.xp_board.specs.Readings.{is_live, is_owned_by, is_type, owner_of}
use Rattle.xp_board.specs.Steps.{some_since}
use Rattle.xp_board.specs.Told.{Post, PortValue}
use Rattle.xp_board.specs.declared.step.Act.TheVariants.{Load}
use Rattle.xp_board.specs.declared.step.StepKind.TheVariants as kinds
use Rattle.xp_board.proofs.KindForms.{fields_of}
use Rattle.kind_words.proofs.KindFacts.{kind_is_some}
use Rattle.step_maker.specs.Answers.{Stops, misses}
use Rattle.step_maker.specs.Finding.{FoundWith}
use Rattle.step_maker.specs.Moves.{Came, Met, Moves}
use Rattle.step_maker.specs.Pauses.{found_in_use}
use Rattle.step_maker.specs.Pauses as pauses
use Rattle.step_maker.specs.Visits.{Does, Only, Then, visit}
use Rattle.step_maker.proofs.Coming.{came_post, met_after, moment_of, moves_came, moves_met}
use Rattle.step_maker.proofs.Noting.{moves_since}
use Rattle.step_maker.proofs.Visiting.{does_as, does_one, does_then}
use Rattle.flush_words.proofs.Lasting.{came_longer, last_looked}
use Rattle.frame_claims.specs.Found.{Upwards}
use Rattle.frame_words.specs.Refs.{saw_refs}
use Rattle.type_rule.proofs.DomainLaw.{owned_by}
use Rattle.domain_destroy.specs.Asking.{ServesDestroy, StopsDestroyer}
use Rattle.domain_destroy.specs.Coming.{FoundCleared, FoundUnused, IsUnused}
use Rattle.domain_destroy.specs.Course.{Advances, ChecksFrame, FoundInUse, FoundNoUse}
use Rattle.domain_destroy.specs.declared.place.DestroyAt.TheVariants.{Checks}
use Rattle.domain_destroy.proofs.Parts.{look_serves, looks_serve, looks_then, one_look}
use Rattle.domain_destroy.proofs.Staying.{found_cleared_stays, unused_stays}

-- ---- owners, as tests
pub not_owned : (d w : ℕ) → owner_of w ≢ Some d → not (is_owned_by d w) ≡ true
not_owned d w other =
    elim (cases_Bool (is_owned_by d w)) [
      | inl on ↦ absurd (other (owned_by d w on))
      | inr off ↦ rw off refl
    ]

off_test : (b : Bool) → b ≡ false → not b ≡ true
off_test b e = rw e refl

-- as the code asks whose a frame is, and whether it is in use
pub other_owner : (y d : ℕ) (o : Option ℕ) → o ≡ owner_of y → true ≡ not (option_eq nat_eq o (Some d)) → owner_of y ≢ Some d
other_owner y d None is off e = absurd (let o : None ≡ Some d = is ∙ e in cc)
other_owner y d (Some k) is off e = absurd (let o : Some k ≡ Some d = is ∙ e in let same : k ≡ d = cc in let t : nat_eq k d ≡ false = grind (arith, off) in grind (arith, nat_tests))

pub own_owner : (y d : ℕ) (o : Option ℕ) → o ≡ owner_of y → false ≡ not (option_eq nat_eq o (Some d)) → owner_of y ≡ Some d
own_owner y d None is on = absurd (cc)
own_owner y d (Some k) is on = sym is ∙ (let t : nat_eq k d ≡ true = grind (arith, on) in let same : k ≡ d = grind (arith, nat_tests) in ap Some same)

pub use_is : (x : ℕ) (k : KindWord) (b : Bool) → kind_read x ≡ Some k → b ≡ (is_live k && (is_table k.kind || is_type k.kind Desc)) → found_in_use x ≡ b
use_is x k b read is = ap (λ (j : KindWord). is_live j && (is_table j.kind || is_type j.kind Desc)) (fields_of x k read) ∙ sym is

-- the port is the same
abbrev pub UnusedAt : PortValue → ℕ → ℕ → ℕ → Type 0
UnusedAt w d since f = IsUnused w.post.machine d since f w.holdings

module _ (v u : PortValue) (d f y : ℕ) (refs : Moves v u (Refs f) Load kinds.Look None y) where
  refs_came : Came v u
  refs_came = moves_came v u (Refs f) Load kinds.Look None y refs

  -- another's
  pub other_serves : ServesDestroy {A = Unit {0}} v u d (Ok tt)
  other_serves = look_serves v u d (Ok tt) (Refs f) y refl (λ r. tt) refs

  pub other_by : owner_of y ≢ Some d → Does v u (λ vs. ChecksFrame d f (Ok tt) vs)
  other_by off = does_as v u (Only (saw_refs f y)) (λ vs. FoundNoUse d f vs) (λ vs one. FoundNoUse.others y off one) (does_one v u _ _ _ _ y refs)

  pub other_unused : owner_of y ≢ Some d → (since : ℕ) → since ≤ length v.holdings.steps → UnusedAt u d since f
  unfolding left_by
  other_unused off since late =
      subst (λ (q : Post). IsUnused q.machine d since f u.holdings) (sym (came_post v u refs_came))
      (inl (moves_since v u (Refs f) Load kinds.Look None y refs since (λ w. not (is_owned_by d w)) late (not_owned d y off)))

  -- its kind word is one
  pub kind_some : (w : PortValue) (x : ℕ) → f < v.post.machine.frames → Moves u w (Kind f) Load kinds.Look None x → IsTrue (is_some (kind_read x))
  kind_some w x real kind =
      kind_is_some u.post.machine u.post.vcpu u.holdings f x (subst (λ (q : Post). f < q.machine.frames) (sym (came_post v u refs_came)) real) kind.finds

  -- the domain's
  module _ (own : owner_of y ≡ Some d) (w : PortValue) (x : ℕ) (kind : Moves u w (Kind f) Load kinds.Look None x) where
    pub both_serve : (answer : Result (Unit {0}) Stop) → misses v.post.machine answer ≡ [] → ServesDestroy v w d answer
    both_serve answer none = looks_serve v w d answer none (looks_then v u w (one_look v u (Refs f) y (λ r. tt) refs) (one_look u w (Kind f) x (λ r. tt) kind))

    both_do : Does v w (Then (Only (saw_refs f y)) (Only (visit (Kind f) Load x)))
    both_do = does_then v u w _ _ (does_one v u _ _ _ _ y refs) (does_one u w _ _ _ _ x kind)

    pub unused_by : found_in_use x ≡ false → Does v w (λ vs. ChecksFrame d f (Ok tt) vs)
    unused_by off = does_as v w (Then (Only (saw_refs f y)) (Only (visit (Kind f) Load x))) (λ vs. FoundNoUse d f vs) (λ vs both. FoundNoUse.unused y x own off both) both_do

    pub in_use_by : IsTrue (found_in_use x) → Does v w (λ vs. ChecksFrame d f (Err (Paused (Busy f x))) vs)
    in_use_by on =
        does_as v w (Then (Only (saw_refs f y)) (Only (visit (Kind f) Load x))) (λ vs. ChecksFrame d f (Err (Paused (Busy f x))) vs)
        (λ vs both. (refl, record { word = y; owned = own; in_use = on; steps = both })) both_do

    pub unused_since : found_in_use x ≡ false → (since : ℕ) → since ≤ length v.holdings.steps → UnusedAt w d since f
    unfolding left_by
    unused_since off since late =
        let longer = came_longer v u refs_came in
        let here : IsTrue (some_since (sizes_of u.post.machine) since (Kind f) (λ w. not (found_in_use w)) w.holdings.steps) =
        moves_since u w (Kind f) Load kinds.Look None x kind since (λ w. not (found_in_use w)) (omega (arith, late, longer)) (off_test (found_in_use x) off) in
        subst (λ (q : Post). IsUnused q.machine d since f w.holdings) (sym (came_post u w (moves_came u w (Kind f) Load kinds.Look None x kind))) (inr here)

    kind_found : FoundWith (Met v w) (Kind f) x u.holdings
    unfolding moment_of
    kind_found =
        record {
          moment = moment_of u (Kind f) Load kinds.Look None x;
          was = met_after v u w (moment_of u (Kind f) Load kinds.Look None x) refs_came (moves_met u w (Kind f) Load kinds.Look None x kind);
          place = refl;
          word = refl;
          hand = refl;
        }

    pub in_use_stops : IsTrue (found_in_use x) → StopsDestroyer v w d (Paused (Busy f x))
    unfolding Stops
    in_use_stops on = λ rose rises. inr (pauses.IsInTheWay.in_use d y u.holdings refl kind_found on (last_looked v u (Refs f) kinds.Look None y refs) own)

-- ---- all frames, upwards
abbrev pub AllUnused : PortValue → PortValue → ℕ → ℕ → Type 0
AllUnused v u d k = (since : ℕ) → since ≤ length v.holdings.steps → (f : ℕ) → f < k → UnusedAt u d since f

module _ (v u w : PortValue) (d f : ℕ) (before : Came v u) (now : Came u w) where
  pub all_unused_more : AllUnused v u d f → ((since : ℕ) → since ≤ length u.holdings.steps → UnusedAt w d since f) → AllUnused v w d (f + 1)
  all_unused_more all this =
      λ since late g low.
      elim (cases_eq g f) [
        | inl at ↦ subst (λ k. UnusedAt w d since k) (sym at) (this since (let longer = came_longer v u before in omega arith))
        | inr away ↦
            subst (λ (q : Post). IsUnused q.machine d since g w.holdings) (sym (came_post u w now))
            (unused_stays u w now u.post.machine u.post.vcpu d since g (all since late g (let a : g ≢ f = away in omega arith)))
      ]

  module _ (real : f < v.post.machine.frames) (below : Does v u (λ vs. Upwards (FoundNoUse d) 0 f vs)) where
    busy_advances : (g x : ℕ) → Does u w (λ vs. (g ≡ f) × FoundInUse d f x vs) → Advances d v Checks w Checks [] [] (Err (Paused (Busy g x)))
    unfolding Does
    busy_advances g x this =
        subst (λ k. Advances d v Checks w Checks [] [] (Err (Paused (Busy k x)))) (sym this.2.0)
        (Advances.in_use f x w real (does_then v u w (λ vs. Upwards (FoundNoUse d) 0 f vs) (FoundInUse d f x) below (this.0, this.1, this.2.1)))

    pub in_use_advances : (e : Stop) → Does u w (λ vs. ChecksFrame d f (Err e) vs) → Advances d v Checks w Checks [] [] (Err e)
    unfolding Does
    in_use_advances (Paused (Busy g x)) this = busy_advances g x this
    in_use_advances _ this = absurd this.2

pub none_in_use : (v w : PortValue) (d since : ℕ) → Came v w → AllUnused v w d v.post.machine.frames → FoundCleared v.post.machine v.post.vcpu d v.post.machine.frames since v.holdings →
    FoundUnused w.post.machine w.post.vcpu d since w.holdings
none_in_use v w d since came all known =
    let same = came_post v w came in
    subst (λ (q : Post). FoundUnused q.machine q.vcpu d since w.holdings) (sym same)
    (record {
      cleared = found_cleared_stays v w came v.post.machine v.post.vcpu d v.post.machine.frames since known;
      unused = λ f real. subst (λ (q : Post). IsUnused q.machine d since f w.holdings) same (all since known.order f real);
    })
