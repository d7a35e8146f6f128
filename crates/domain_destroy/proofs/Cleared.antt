-- One frame is found another domain's, or loses its marks: what is said of all its steps.
use Rattle.std.proofs.Common.{◌≡◌, ◌≢◌, ℕ, ◌+◌, ◌<◌, ◌≤◌, ◌⊎◌, not, Bool, true, false, List, [], ◌∷◌, length, Some, None, Result, Ok, Err, IfOk, IsTrue, refl, sym, ap, ◌∙◌, subst, inl, inr, arith}
use Rattle.std.proofs.lemmas.Bool.{cases_eq}
use Rattle.xp_words.specs.Places.{sizes_of}
use Rattle.xp_words.specs.declared.place.Place.TheVariants.{Kind, Refs}
use Rattle.xp_words.specs.declared.reply.Pause.TheVariants.{Due}
use Rattle.xp_words.specs.declared.reply.Stop.{Stop}
use Rattle.xp_words.specs.declared.reply.Stop.TheVariants.{Paused}
use Rattle.xp_board.specs.Acts.{left_by}
use Rattle.xp_board.specs.LifeSteps.{HasCleared, is_unallocated, is_unkept, is_unpinned}
use Rattle.xp_board.specs.Readings.{is_owned_by, owner_of}
use Rattle.xp_board.specs.Steps.{some_since}
use Rattle.xp_board.specs.Told.{Post, PortValue}
use Rattle.xp_board.specs.declared.step.Act.TheVariants.{Load}
use Rattle.xp_board.specs.declared.step.StepKind.TheVariants as kinds
use Rattle.step_maker.specs.Holds.{Rests, Same}
use Rattle.step_maker.specs.Moves.{Came, Met, Moves}
use Rattle.step_maker.specs.Pauses.{HasPassed}
use Rattle.step_maker.specs.Pauses as pauses
use Rattle.step_maker.proofs.Changing.{found_after, found_before}
use Rattle.step_maker.proofs.Coming.{came_post, came_trans, moves_came}
use Rattle.domain_destroy.specs.Asking.{of_domain}
use Rattle.domain_destroy.specs.Clearing.{ClearsFrame, GivesMark, SawOwn, TakesMarks}
use Rattle.domain_destroy.specs.Clearing as clearing
use Rattle.domain_destroy.specs.Coming.{FoundCleared, IsForeign}
use Rattle.domain_destroy.specs.Course as course
use Rattle.domain_destroy.specs.Course.{Advances}
use Rattle.domain_destroy.specs.Destroying.{GaveMark, LeavesAs, PartWent, TookMarks}
use Rattle.domain_destroy.specs.Emptying.{NamesNone}
use Rattle.domain_destroy.specs.declared.place.DestroyAt.TheVariants.{Clears}
use Rattle.domain_destroy.proofs.Giving.{other_tests}
use Rattle.domain_destroy.proofs.Parts.{LooksOnly, destroy_came, found_there, left_after, left_before, left_since, looks_serve, looks_then, moved_left, one_look, same_settled, settled_then, went_err, went_same, went_then}
use Rattle.domain_destroy.proofs.Staying.{found_cleared_stays}

-- ---- what is known of the frames
abbrev pub ClearedAt : PortValue → ℕ → ℕ → ℕ → Type 0
ClearedAt v d k since = FoundCleared v.post.machine v.post.vcpu d k since v.holdings

-- by steps since then it was found another domain's, or is without its marks
abbrev pub HasLost : PortValue → PortValue → ℕ → ℕ → ℕ → Type 0
HasLost v w d f since = IsTrue (some_since (sizes_of v.post.machine) since (Refs f) (λ x. not (is_owned_by d x)) w.holdings.steps) ⊎ HasCleared v.post.machine f since w.holdings

pub cleared_stays : (v w : PortValue) (d k since : ℕ) → Came v w → ClearedAt v d k since → ClearedAt w d k since
cleared_stays v w d k since came y = subst (λ (p : Post). FoundCleared p.machine p.vcpu d k since w.holdings) (sym (came_post v w came)) (found_cleared_stays v w came v.post.machine v.post.vcpu d k since y)

pub cleared_more : (v w : PortValue) (d f since : ℕ) → Came v w → (since ≤ length v.holdings.steps → HasLost v w d f since) → ClearedAt v d f since → ClearedAt w d (f + 1) since
cleared_more v w d f since came here y =
    let z = found_cleared_stays v w came v.post.machine v.post.vcpu d f since y in
    subst (λ (p : Post). FoundCleared p.machine p.vcpu d (f + 1) since w.holdings) (sym (came_post v w came))
    (record {
      foreign = z.foreign;
      emptied = z.emptied;
      order = z.order;
      cleared = λ g low real. elim (cases_eq g f) [
        | inl at ↦ subst (λ k. HasLost v w d k since) (sym at) (here y.order)
        | inr away ↦ z.cleared g (let off : g ≢ f = away in omega arith) real
      ];
    })

pub foreign_stays : (v w : PortValue) (d : ℕ) → Came v w → IsForeign v.post.machine v.post.vcpu d → IsForeign w.post.machine w.post.vcpu d
foreign_stays v w d came y = subst (λ (p : Post). IsForeign p.machine p.vcpu d) (sym (came_post v w came)) y

-- ---- the two looks
module _ {v a b : PortValue} {f x y : ℕ} (d : ℕ) (kind : Moves v a (Kind f) Load kinds.Look None x) (refs : Moves a b (Refs f) Load kinds.Look None y) (same_a : Same v a) (same_b : Same a b) (rests : Rests v) (clear : NamesNone v) where
  came_a : Came v a
  came_a = moves_came v a (Kind f) Load kinds.Look None x kind

  came_b : Came a b
  came_b = moves_came a b (Refs f) Load kinds.Look None y refs

  pub looks_came : Came v b
  looks_came = came_trans v a b came_a came_b

  looks : LooksOnly v b
  looks = looks_then v a b (one_look v a (Kind f) x (λ r. tt) kind) (one_look a b (Refs f) y (λ r. tt) refs)

  same : Same v b
  same = same_b ∙ same_a

  -- another domain's
  module _ (off : owner_of y ≢ Some d) where
    pub other_went : PartWent v b d (ClearsFrame d f v b [] (Ok false)) (Ok false)
    other_went = went_same v b d (Ok false) rests clear same (looks_serve v b d (Ok false) refl looks) tt tt (clearing.ClearsFrame.others a b x y kind refs off)

    pub other_more : (since : ℕ) → ClearedAt v d f since → ClearedAt b d (f + 1) since
    unfolding left_by
    other_more since =
        cleared_more v b d f since looks_came (λ early. inl (left_since v b (Refs f) (λ z. not (is_owned_by d z)) since early
        (left_after v a b (Refs f) (λ z. not (is_owned_by d z)) came_a (moved_left a b (Refs f) Load kinds.Look None y (λ z. not (is_owned_by d z)) refs (ap not (other_tests d y off))))))

  -- the domain's: a mark of its kind word is one of the domain's
  module _ (owned : owner_of y ≡ Some d) (inside : f < v.post.machine.frames) (foreign : IsForeign v.post.machine v.post.vcpu d) where
    pub saw : SawOwn v b d f x
    saw = record { seen = a; word = y; frame = inside; foreign = foreign; kind = kind; refs = refs; owned = owned; same = same }

    -- with the marks of the kind word
    module _ {c : PortValue} {answers : List Bool} {answer : Result (Unit {0}) Stop} (took : TookMarks b c f x answers answer) where
      marks_went : PartWent v c d (TakesMarks f x b c answers answer) answer
      marks_went =
          record {
            rests = took.rests;
            hand = settled_then v b c (same_settled v b same) took.hand;
            clear = took.clear;
            serves = took.serves v d saw;
            stops = took.stops v d saw;
            kinds = took.kinds;
            course = took.course;
          }

      pub marks_came : Came v c
      marks_came = destroy_came v c d answer (took.serves v d saw)

    pub marked_went : {c : PortValue} {answers : List Bool} {e : Stop} → TookMarks b c f x answers (Err e) → PartWent {A = Bool} v c d (ClearsFrame d f v c answers (Err e)) (Err e)
    marked_went {c} {answers} {e} took = went_err v c d e (marks_went took) (clearing.ClearsFrame.marked a b c x y answers e kind refs owned took.course)

    -- and with the allocated one
    module _ {c w : PortValue} {answers : List Bool} {answer : Result Bool Stop} (took : TookMarks b c f x answers (Ok tt)) (gave : GaveMark c w d f answer) where
      given_came : Came c w
      given_came = destroy_came c w d answer gave.part.serves

      pub whole_came : Came v w
      whole_came = came_trans v c w (marks_came took) given_came

      pub unmarked_went : PartWent v w d (ClearsFrame d f v w answers answer) answer
      unmarked_went = went_then v c w d tt answer (marks_went took) gave.part (clearing.ClearsFrame.unmarked a b c w x y answers answer kind refs owned took.course gave.part.course)

      pinless : LeavesAs v w (Kind f) is_unpinned
      pinless = left_before v c w (Kind f) is_unpinned given_came (took.unpinned v d saw)

      keptless : LeavesAs v w (Kind f) is_unkept
      keptless = left_before v c w (Kind f) is_unkept given_came (took.unkept v d saw)

      markless : (given : Bool) → answer ≡ Ok given → given ≡ true → LeavesAs v w (Refs f) is_unallocated
      markless given is on = left_after v c w (Refs f) is_unallocated (marks_came took) (subst (λ (r : Result Bool Stop). IfOk r (λ g. g ≡ true → LeavesAs c w (Refs f) is_unallocated)) is gave.unallocated on)

      otherwise : (given : Bool) → answer ≡ Ok given → given ≡ false → LeavesAs v w (Refs f) (λ z. not (is_owned_by d z))
      otherwise given is off = left_after v c w (Refs f) (λ z. not (is_owned_by d z)) (marks_came took) (subst (λ (r : Result Bool Stop). IfOk r (λ g. g ≡ false → LeavesAs c w (Refs f) (λ z. not (is_owned_by d z)))) is gave.others off)

      lost_by : (since : ℕ) → since ≤ length v.holdings.steps → (given : Bool) → answer ≡ Ok given → HasLost v w d f since
      lost_by since early false is = inl (left_since v w (Refs f) (λ z. not (is_owned_by d z)) since early (otherwise false is refl))
      lost_by since early true is =
          inr (record {
            unallocated = left_since v w (Refs f) is_unallocated since early (markless true is refl);
            unpinned = left_since v w (Kind f) is_unpinned since early pinless;
            unkept = left_since v w (Kind f) is_unkept since early keptless;
          })

      pub unmarked_more : (given : Bool) → answer ≡ Ok given → (since : ℕ) → ClearedAt v d f since → ClearedAt w d (f + 1) since
      unmarked_more given is since = cleared_more v w d f since whole_came (λ early. lost_by since early given is)

      pub unmarked_passed : (given : Bool) → answer ≡ Ok given → given ≡ true → HasPassed v.post.machine (of_domain v.post.machine d true) (Met v w)
      unmarked_passed given is on =
          pauses.HasPassed.frame d f y refl (found_before v b w (Refs f) y (came_trans b c w took.came given_came) (found_after v a b (Refs f) y came_a (found_there a b (Refs f) Load kinds.Look None y refs))) owned (markless given is on) pinless keptless

      more_by : (r : Result Bool Stop) → answer ≡ r → IfOk r (λ given. (since : ℕ) → ClearedAt v d f since → ClearedAt w d (f + 1) since)
      more_by (Ok given) is = unmarked_more given is
      more_by (Err e) is = tt

      pub unmarked_come : IfOk answer (λ given. (since : ℕ) → ClearedAt v d f since → ClearedAt w d (f + 1) since)
      unmarked_come = more_by answer refl

      passed_by : (r : Result Bool Stop) → answer ≡ r → IfOk r (λ given. given ≡ true → HasPassed v.post.machine (of_domain v.post.machine d true) (Met v w))
      passed_by (Ok given) is = unmarked_passed given is
      passed_by (Err e) is = tt

      pub unmarked_past : IfOk answer (λ given. given ≡ true → HasPassed v.post.machine (of_domain v.post.machine d true) (Met v w))
      unmarked_past = passed_by answer refl

-- ---- the gate pauses it behind one of the domain's
pub cleared_due : {u w : PortValue} {d f : ℕ} {passed : Bool} → f < u.post.machine.frames → passed ≡ true → (more : List Bool) → ClearsFrame d f u w more (Ok passed) → Advances d u (Clears f) w (Clears (f + 1)) [] (true ∷ more) (Err (Paused Due))
cleared_due {w = w} {f = f} {passed = true} real is more one = course.Advances.cleared_due f w more real one
cleared_due {passed = false} real is more one = absurd cc
