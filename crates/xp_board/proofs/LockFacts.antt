-- What is known of a table whose lock a vCPU has, and of an entry of it that is rewritten.
use Rattle.std.proofs.Common.{◌≡◌, ℕ, ◌<◌, ◌==◌, true, false, Option, Some, None, IsTrue, refl, sym, ◌∙◌, ap, subst, inl, inr, arith}
use Rattle.std.proofs.lemmas.Bool.{cases_eq}
use Rattle.std.proofs.lemmas.Bool.Decides.{nat_tests}
use Rattle.xp_words.specs.declared.kind.PageType.{PageType}
use Rattle.xp_words.specs.PageTypes.{is_table}
use Rattle.xp_words.specs.Entries.{demand_at}
use Rattle.xp_words.specs.Machine.{Machine}
use Rattle.xp_words.specs.declared.place.Place.{Place}
use Rattle.xp_words.specs.declared.place.Place.TheVariants.{Cell}
use Rattle.xp_words.specs.Places.{sizes_of}
use Rattle.xp_board.specs.declared.holdings.Seen.{Seen}
use Rattle.xp_board.specs.declared.holdings.Lock.{Lock}
use Rattle.xp_board.specs.declared.holdings.Holdings.{Holdings}
use Rattle.xp_board.specs.Steps.{last_since}
use Rattle.xp_board.specs.Hands.{lock_on, locks_on}
use Rattle.xp_board.specs.Readings.{kind_at, is_locked}
use Rattle.xp_board.specs.CellSteps.{is_same_as_seen}
use Rattle.xp_board.specs.Found.{LockFound}
use Rattle.xp_board.specs.WellFormed.{IsLockFormed}
use Rattle.xp_board.specs.Recorded.{HasType, entry_demand}
use Rattle.xp_board.specs.Sound.{Sound}
use Rattle.xp_board.proofs.EntryWords.{entry_asks_same, same_demand}
use Rattle.xp_board.proofs.ListCounts.{EachOf-found}
use Rattle.xp_board.proofs.HandLists.{first-some}
use Rattle.xp_board.proofs.Works.{is_locked-mine}
use Rattle.xp_board.proofs.WorkFacts.{seen_is}

-- the lock e of vCPU s on table f
pub record Locks (n : Machine) (m : Place → ℕ) (h : ℕ → Holdings) (s f : ℕ) (e : Lock) : Type 0 where
  pub frame : e.frame ≡ f
  pub some : 0 < locks_on f (h s).locks
  pub locked : is_locked (kind_at m f) ≡ true
  pub kind : (kind_at m f).kind ≡ e.kind
  pub table : is_table (kind_at m f).kind ≡ true
  pub found : LockFound (sizes_of n) m (h s) e
  pub formed : IsLockFormed n (h s) e

pub lock_facts : (n : Machine) (m : Place → ℕ) (h : ℕ → Holdings) (s f : ℕ) (e : Lock) → Sound n m h → s < (sizes_of n).vcpus → lock_on f (h s).locks ≡ Some e → Locks n m h s f e
lock_facts n m h s f e sound real here =
    let some = first-some (λ y. y.frame) f e (h s).locks here in
    let typed = EachOf-found (λ y. HasType m y.frame (Some y.kind)) (λ y. y.frame) f (h s).locks e here (sound.counts.kinds.locks s real) in
    let formed = EachOf-found (IsLockFormed n (h s)) (λ y. y.frame) f (h s).locks e here ((sound.formed s real).locks) in
    let found = EachOf-found (LockFound (sizes_of n) m (h s)) (λ y. y.frame) f (h s).locks e here ((sound.found s real).locks) in
    let kind : (kind_at m f).kind ≡ e.kind = ap (λ y. (kind_at m y).kind) (sym typed.0) ∙ typed.1 in
    record {
      frame = typed.0;
      some = some;
      locked = is_locked-mine n m h sound.alone f s real some;
      kind = kind;
      table = rw kind formed.1.table;
      found = found.1;
      formed = formed.1;
    }

-- ---- an entry that asks the same as the one seen last
seen_same : (t : PageType) (i new : ℕ) (o : Option Seen) → IsTrue (is_same_as_seen t i new o) → (w : ℕ) × (o ≡ Some (record { index = i; word = w })) × (demand_at t i w ≡ demand_at t i new)
seen_same t i new None e = absurd (cc)
seen_same t i new (Some y) e =
    elim (cases_eq y.index i) [
      | inl at ↦
          (let b : (y.index == i) ≡ true = grind (arith, nat_tests) in
          let k = rw b at e in
          (y.word, rw at refl, same_demand (demand_at t i y.word) (demand_at t i new) k))
      | inr off ↦ absurd (let b : (y.index == i) ≡ false = grind (arith, nat_tests) in let k = rw b at e in cc)
    ]

pub rewritten_same : (n : Machine) (m : Place → ℕ) (h : ℕ → Holdings) (s f i new : ℕ) (e : Lock) → Locks n m h s f e → IsTrue (is_same_as_seen e.kind i new e.seen) →
    demand_at (kind_at m f).kind i new ≡ entry_demand m f i
rewritten_same n m h s f i new e k same =
    let seen = seen_same e.kind i new e.seen same in
    let noted : last_since (sizes_of n) e.since (Cell e.frame i) (h s).steps ≡ Some seen.0 = seen_is (sizes_of n) e.since e.frame _ e.seen i seen.0 k.formed.seen seen.1 in
    let asks = entry_asks_same e.kind i (m (Cell e.frame i)) seen.0 (k.found i seen.0 noted) in
    let asks_f : demand_at e.kind i (m (Cell f i)) ≡ demand_at e.kind i seen.0 = subst (λ y. demand_at e.kind i (m (Cell y i)) ≡ demand_at e.kind i seen.0) k.frame asks in
    rw k.kind (sym seen.2 ∙ sym asks_f)
