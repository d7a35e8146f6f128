-- When each row may be made.
use Rattle.std.proofs.Common.{◌≡◌, ℕ, ◌+◌, ◌<◌, ◌≤◌, length, Some, None, IsTrue, refl, sym, subst, arith, lit<, inl, inr}
use Rattle.std.proofs.lemmas.Bool.Decides.{nat_tests}
use Rattle.xp_words.specs.Machine.{Machine}
use Rattle.xp_words.specs.declared.place.Place.TheVariants.{Clock, Vcpu}
use Rattle.xp_words.specs.Places.{Sizes, is_place, sizes_of}
use Rattle.xp_board.specs.declared.step.Act.TheVariants.{Load, Store}
use Rattle.xp_board.specs.declared.step.Mark.TheVariants.{Record, Shed}
use Rattle.xp_board.specs.declared.step.StepKind.TheVariants as kinds
use Rattle.xp_board.specs.declared.holdings.Holdings.{Holdings}
use Rattle.xp_board.specs.ContextSteps.{FitsWord, MayName, context_type}
use Rattle.xp_board.specs.Hands.{typed_to}
use Rattle.xp_board.specs.Readings.{is_context}
use Rattle.xp_board.specs.Spelling.{IsSpelling, is_vcpu_word}
use Rattle.xp_board.specs.Told.{PortValue}
use Rattle.xp_board.proofs.Numbers.{vcpu_there}
use Rattle.step_maker.specs.Holds.{MayWork}
use Rattle.step_maker.specs.Moves.{May}
use Rattle.table_words.specs.Entries.{RecordsNext, ShedsLast}
use Rattle.table_words.specs.OldWords.{old_number}
use Rattle.table_words.specs.declared.old_words.OldWord.{OldWord}
use Rattle.table_words.specs.declared.old_words.OldWord.TheVariants.{First, Second}

-- ---- entries
pub may_record : (v : PortValue) (f upto : ℕ) → RecordsNext v.post.machine f upto v.holdings → May v Clock Load kinds.Look (Some (Record f upto))
unfolding is_place
may_record v f upto next = record { place = refl; marked = (next.work, next.may); running = λ needs. absurd cc; spelling = tt; act = tt }

pub may_shed : (v : PortValue) (f upto : ℕ) → ShedsLast f upto v.holdings → May v Clock Load kinds.Look (Some (Shed f upto))
unfolding is_place
may_shed v f upto last = record { place = refl; marked = (last.work, last.may); running = λ needs. absurd cc; spelling = tt; act = tt }

-- ---- old words
old_in_context : (which : OldWord) → IsTrue (is_context (old_number which))
old_in_context First = refl
old_in_context Second = refl

old_small : (which : OldWord) → old_number which < 38
old_small First = lit< tt
old_small Second = lit< tt

pub old_there : (z : Sizes) (s k : ℕ) (which : OldWord) → s < z.vcpus → k ≡ old_number which → IsTrue (is_place z (Vcpu s k))
old_there z s k which real word = subst (λ j. IsTrue (is_place z (Vcpu s j))) (sym word) (vcpu_there z s (old_number which) real (old_small which))

names_word : (n : Machine) (which : OldWord) (w : ℕ) → w ≤ n.frames → IsTrue (is_vcpu_word n (old_number which) w)
names_word n First w few = grind (arith, nat_tests)
names_word n Second w few = grind (arith, nat_tests)

-- they take frames of any type
fits_any : (n : Machine) (s f : ℕ) (h : Holdings) (which : OldWord) → FitsWord n s f h (context_type (old_number which))
fits_any n s f h First = tt
fits_any n s f h Second = tt

module _ (v : PortValue) (s k : ℕ) (which : OldWord) (own : s ≡ v.post.vcpu) (real : s < length v.post.machine.vcpu_domain) (word : k ≡ old_number which) (may : MayWork v) where
  may_name : (w : ℕ) → w ≤ v.post.machine.frames → MayName v.post.machine v.post.vcpu s (old_number which) w v.holdings → May v (Vcpu s k) (Store w) kinds.Context None
  unfolding IsSpelling
  may_name w few names =
      let frames = may.machine.few_frames in
      subst (λ j. May v (Vcpu s j) (Store w) kinds.Context None) (sym word)
      (record {
        place = old_there (sizes_of v.post.machine) s (old_number which) which real refl;
        marked = tt;
        running = λ needs. may.running;
        spelling = (omega (arith, few, frames), names_word v.post.machine which w few);
        act = inl names;
      })

  pub may_put_old : (f new : ℕ) → new ≡ f + 1 → f < v.post.machine.frames → 0 < typed_to f v.holdings.typed → May v (Vcpu s k) (Store new) kinds.Context None
  may_put_old f new is frame held =
      may_name new (omega (arith, is, frame))
      (record { own = own; word = old_in_context which; names = inr (record { frame = f; names = is; in_hand = held; fits = fits_any v.post.machine v.post.vcpu f v.holdings which }) })

  pub may_take_old : May v (Vcpu s k) (Store 0) kinds.Context None
  may_take_old = may_name 0 (omega arith) (record { own = own; word = old_in_context which; names = inl refl })
