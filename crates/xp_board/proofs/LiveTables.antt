-- Live and counted tables: all their entries are recorded, and lead to live and counted frames.
use Rattle.std.proofs.Common.{◌≡◌, ℕ, ◌<◌, ◌≤◌, inl, inr, true, arith, None, ◌∙◌, nat_lt, Bool, false, refl, ap, ◌+◌, Option, Some}
use Rattle.std.proofs.lemmas.Bool.Decides.{nat_tests}
use Rattle.xp_words.specs.declared.kind.PageType.{PageType}
use Rattle.xp_words.specs.declared.kind.PageType.TheVariants as kinds
use Rattle.xp_words.specs.declared.kind.KindWord.{KindWord}
use Rattle.xp_words.specs.declared.entry.Demand.TheVariants.{Typed}
use Rattle.xp_words.specs.PageTypes.{type_number, is_table}
use Rattle.xp_words.specs.Machine.{Machine}
use Rattle.xp_words.specs.declared.place.Place.{Place}
use Rattle.xp_words.specs.declared.place.Place.TheVariants.{Kind, Vcpu, Refs}
use Rattle.xp_words.specs.Places.{sizes_of, is_place}
use Rattle.xp_board.specs.declared.holdings.Holdings.{Holdings}
use Rattle.xp_board.specs.Readings.{kind_at, is_context, domain_of, owner_of}
use Rattle.xp_board.specs.Hands.{work_on}
use Rattle.xp_board.specs.Recorded.{held, held_of, entry_demand, names_typed, HasType}
use Rattle.xp_board.specs.Valid.{LeadsWell, is_live_context}
use Rattle.xp_board.specs.Sound.{Sound}
use Rattle.xp_board.proofs.Counted.{entries-part, names_typed-typed, contexts-part}
use Rattle.xp_board.proofs.Works.{nobody_has, held_free}
use Rattle.xp_board.proofs.HeldByForm.{live_partial, live_idle}
use Rattle.xp_board.proofs.KindReadings.{live_count}
use Rattle.xp_board.proofs.KindForms.{zero_dead}
use Rattle.xp_words.specs.KindWords.{kind_fields}
use Rattle.xp_board.specs.ContextSteps.{context_type}

all_held : (k : KindWord) → k.validated ≡ true → 1 ≤ type_number k.kind → type_number k.kind ≤ 4 → held_of k None ≡ 512
unfolding held_of
all_held k v lo hi = let t : is_table k.kind ≡ true = grind (arith, nat_tests) in rw (t, v)

-- ---- a frame that is in nobody's works
module _ (n : Machine) (m : Place → ℕ) (h : ℕ → Holdings) (sound : Sound n m h) where
  pub no_work : (f s : ℕ) → (kind_at m f).validated ≡ true → 0 < (kind_at m f).number → s < (sizes_of n).vcpus → work_on f (h s).works ≡ None
  no_work f s v c real = nobody_has n m h sound.alone f (live_idle (kind_at m f) v c) s real

  -- all entries of a live and counted table are recorded
  pub table_held : (f : ℕ) → (kind_at m f).validated ≡ true → 0 < (kind_at m f).number → 1 ≤ type_number (kind_at m f).kind → type_number (kind_at m f).kind ≤ 4 →
      held (sizes_of n) m h f ≡ 512
  table_held f v c lo hi = held_free n m h sound.alone f (live_idle (kind_at m f) v c) ∙ all_held (kind_at m f) v lo hi

  -- they lead to live frames
  pub leads_live : (f i g : ℕ) → (kind_at m f).validated ≡ true → 0 < (kind_at m f).number → LeadsWell (sizes_of n) m h f i g → (kind_at m g).validated ≡ true
  leads_live f i g v c (inl live) = live
  leads_live f i g v c (inr (early, inl last)) = absurd (live_partial (kind_at m f) v last.partial)
  leads_live f i g v c (inr (early, inr open_entry)) =
      absurd (let none = no_work f open_entry.vcpu v c open_entry.real in let some = open_entry.here in cc)

  -- a live frame that a recorded entry asks is counted
  pub named_counted : (f i g : ℕ) (t : PageType) → f < (sizes_of n).frames → i < held (sizes_of n) m h f → entry_demand m f i ≡ Typed g t →
      (kind_at m g).validated ≡ true → 0 < (kind_at m g).number
  named_counted f i g t inside recorded asks v =
      let count = sound.counts.types g in
      let number = live_count (kind_at m g) v in
      let entry = entries-part (names_typed g) (sizes_of n) m h f i inside recorded in
      let one = names_typed-typed g t (entry_demand m f i) asks in
      omega arith

  -- a live frame is one of the machine
  inside_by : (f : ℕ) (b : Bool) → is_place (sizes_of n) (Kind f) ≡ b → (kind_at m f).validated ≡ true → is_place (sizes_of n) (Kind f) ≡ true
  inside_by f true e live = e
  inside_by f false e live = absurd (let z = sound.spelled.outside (Kind f) e in let d : (kind_at m f).validated ≡ false = ap (λ w. (kind_fields w).validated) z ∙ zero_dead in cc)

  pub live_inside : (f : ℕ) → (kind_at m f).validated ≡ true → f < (sizes_of n).frames
  unfolding is_place
  live_inside f live = let p : nat_lt f n.frames ≡ true = inside_by f _ refl live in grind (arith, nat_tests)

-- ---- the words of a vCPU that name a base
base_live : (k : ℕ) → k < 2 → is_live_context k ≡ true
base_live k b = grind (arith, nat_tests)

pub base_context : (k : ℕ) → k < 2 → is_context k ≡ true
base_context k b = grind (arith, nat_tests)

pub base_type : (k : ℕ) → k < 2 → context_type k ≡ Some kinds.L4
base_type k b = let e : nat_lt k 2 ≡ true = grind (arith, nat_tests) in rw e

pub has_type : (m : Place → ℕ) (g : ℕ) (o : Option PageType) (t : PageType) → o ≡ Some t → HasType m g o → (kind_at m g).kind ≡ t
has_type m g o t e h = rw e at h

-- a base is a live and counted table of level 4
pub record BaseTable (n : Machine) (m : Place → ℕ) (v g : ℕ) : Type 0 where
  pub live : (kind_at m g).validated ≡ true
  pub counted : 0 < (kind_at m g).number
  pub kind : (kind_at m g).kind ≡ kinds.L4
  pub owner : owner_of (m (Refs g)) ≡ Some (domain_of n v)

pub base_table : (n : Machine) (m : Place → ℕ) (h : ℕ → Holdings) → Sound n m h → (v k g : ℕ) → v < (sizes_of n).vcpus → k < 2 → m (Vcpu v k) ≡ g + 1 → BaseTable n m v g
base_table n m h sound v k g real b names =
    let live = sound.valid.contexts v k g real (omega arith) (base_live k b) names in
    let count = sound.counts.types g in
    let number = live_count (kind_at m g) live in
    let context = contexts-part (sizes_of n) m g v k real (omega arith) (base_context k b) names in
    record {
      live = live;
      counted = omega arith;
      kind = has_type m g (context_type k) kinds.L4 (base_type k b) (sound.counts.kinds.contexts v k g real (omega arith) (base_context k b) names);
      owner = sound.permitted.contexts v k g real (omega arith) (base_live k b) names;
    }
