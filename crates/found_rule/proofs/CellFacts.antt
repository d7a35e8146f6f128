-- Who may have the frame of a cell that is written.
use Rattle.std.proofs.Common.{◌≡◌, ℕ, ◌<◌, true, false, Some, IsTrue, sym, subst, inl, inr, arith}
use Rattle.std.proofs.lemmas.Bool.{cases_eq}
use Rattle.xp_words.specs.declared.kind.PageType.TheVariants as kinds
use Rattle.xp_words.specs.PageTypes.{is_table}
use Rattle.xp_words.specs.KindWords.{kind_fields}
use Rattle.xp_words.specs.Machine.{Machine}
use Rattle.xp_words.specs.declared.place.Place.{Place}
use Rattle.xp_words.specs.declared.place.Place.TheVariants.{Refs, Cell}
use Rattle.xp_words.specs.Places.{sizes_of}
use Rattle.xp_board.specs.declared.holdings.Lock.{Lock}
use Rattle.xp_board.specs.declared.holdings.Holdings.{Holdings}
use Rattle.xp_board.specs.Lists.{EachOf}
use Rattle.xp_board.specs.Readings.{kind_at, ref_count}
use Rattle.xp_board.specs.Hands.{works_on, locks_on, lock_on, claims_of}
use Rattle.xp_board.specs.After.{is_fixed}
use Rattle.xp_board.specs.Found.{WorkFound, is_same_entry}
use Rattle.xp_board.specs.Sound.{Sound, WorkAgrees}
use Rattle.found_rule.proofs.WordsOf.{CellSpared}
use Rattle.found_rule.proofs.SoundWords.{work_counted, lock_counted}
use Rattle.xp_board.proofs.HeldByForm.{live_idle}
use Rattle.xp_board.proofs.KindReadings.{live_count}
use Rattle.xp_board.proofs.HandLists.{EachOf-all, EachOf-first, first-key}
use Rattle.xp_board.proofs.ListCounts.{EachOf-there, first_by-some}
use Rattle.xp_board.proofs.Counted.{type_below}
use Rattle.xp_board.proofs.Works.{nobody_works, counted_alive}
use Rattle.xp_board.proofs.LockFacts.{lock_facts}

-- no frame in work is marked, or no descriptor page, and has words that are known to be fixed
abbrev pub FixedWorks : Machine → (ℕ → Holdings) → Type 0
FixedWorks n h =
    (t : ℕ) → t < (sizes_of n).vcpus → EachOf (λ e. 0 < e.fixed → ((kind_fields e.word).unflushed ≡ false) × ((kind_fields e.word).kind ≡ kinds.Desc)) (h t).works

module _ (n : Machine) (m : Place → ℕ) (b : ℕ → Holdings) (sound : Sound n m b) (f : ℕ) where
  -- a frame without a count is in nobody's works, and locked by nobody
  pub uncounted_works : ref_count (m (Refs f)) ≡ 0 → (t : ℕ) → t < (sizes_of n).vcpus → works_on f (b t).works ≡ 0
  uncounted_works none t l =
      elim (cases_eq (works_on f (b t).works) 0) [
        | inl zero ↦ zero
        | inr some ↦
            (let one = first_by-some (λ e. e.frame) f (b t).works (omega arith) in
            let frame = first-key (λ e. e.frame) f one.0 (b t).works one.1 in
            let found = EachOf-first (WorkFound n m b (b t)) (λ e. e.frame) f one.0 (b t).works (sound.found t l).works one.1 in
            let agrees = EachOf-first (WorkAgrees (b t)) (λ e. e.frame) f one.0 (b t).works (sound.works t l) one.1 in
            let count = work_counted n m b sound t l one.0 (subst (λ g. 0 < works_on g (b t).works) (sym frame) (omega arith)) found agrees in
            let here : 0 < ref_count (m (Refs f)) = subst (λ g. 0 < ref_count (m (Refs g))) frame count in
            omega arith)
      ]

  pub uncounted_locks : ref_count (m (Refs f)) ≡ 0 → (t : ℕ) → t < (sizes_of n).vcpus → locks_on f (b t).locks ≡ 0
  uncounted_locks none t l =
      elim (cases_eq (locks_on f (b t).locks) 0) [
        | inl zero ↦ zero
        | inr some ↦ absurd (let a = lock_counted n m b sound t f l (omega arith) in let w = type_below (sizes_of n) m b f sound.counts in omega arith)
      ]

  -- a locked frame is a live and counted table
  pub lock_type : (t : ℕ) → t < (sizes_of n).vcpus → (e : Lock) → lock_on f (b t).locks ≡ Some e → (kind_at m f).kind ≡ e.kind
  lock_type t l e here = (lock_facts n m b t f e sound l here).kind

  pub lock_table : (t : ℕ) → t < (sizes_of n).vcpus → 0 < locks_on f (b t).locks → is_table (kind_at m f).kind ≡ true
  lock_table t l some = let one = first_by-some (λ e. e.frame) f (b t).locks some in (lock_facts n m b t f one.0 sound l one.1).table

  -- a live frame with a type count is in nobody's works and claimed by nobody
  pub live_alone : (kind_at m f).validated ≡ true → 0 < (kind_at m f).number → (t : ℕ) → t < (sizes_of n).vcpus → (works_on f (b t).works ≡ 0) × (claims_of f (b t).claimed ≡ 0)
  live_alone live some t l = (
    nobody_works n m b sound.alone f (live_idle (kind_at m f) live some) t l,
    (let e = live_count (kind_at m f) live in let w = type_below (sizes_of n) m b f sound.counts in let q = counted_alive n m b sound.alone f t l (omega arith) in omega arith),
  )

  -- ---- what another vCPU is spared
  pub spared_alone : (m2 : Place → ℕ) (i t : ℕ) → works_on f (b t).works ≡ 0 → claims_of f (b t).claimed ≡ 0 →
      (0 < locks_on f (b t).locks → IsTrue (is_same_entry (m2 (Cell f i)) (m (Cell f i)))) → CellSpared m m2 f i (b t)
  spared_alone m2 i t works claims locks =
      record {
        claims = claims;
        locks = locks;
        works = λ some. absurd (omega arith);
        fixed = EachOf-there (λ e. Unit {0}) (λ e. e.frame ≡ f → i < e.fixed → m2 (Cell f i) ≡ m (Cell f i)) (λ e. e.frame) (b t).works
            (λ e there h at below. absurd (let k = subst (λ g. 0 < works_on g (b t).works) at there in omega arith)) (EachOf-all (λ e. Unit {0}) (b t).works (λ e. tt));
      }

  -- and what the vCPU that writes knows of its own
  pub fix_none : (m2 : Place → ℕ) (i s : ℕ) → works_on f (b s).works ≡ 0 →
      EachOf (λ e. (j : ℕ) → Cell f i ≡ Cell e.frame j → j < e.fixed → IsTrue (is_fixed (m2 (Cell f i)))) (b s).works
  fix_none m2 i s none =
      EachOf-there (λ e. Unit {0}) (λ e. (j : ℕ) → Cell f i ≡ Cell e.frame j → j < e.fixed → IsTrue (is_fixed (m2 (Cell f i)))) (λ e. e.frame) (b s).works
      (λ e there h j at below. absurd (let q : e.frame ≡ f = cc in let k = subst (λ g. 0 < works_on g (b s).works) q there in omega arith)) (EachOf-all (λ e. Unit {0}) (b s).works (λ e. tt))

  pub zero_none : (m2 : Place → ℕ) (i s : ℕ) → claims_of f (b s).claimed ≡ 0 →
      EachOf (λ e. (j : ℕ) → Cell f i ≡ Cell e.frame j → j < e.scrubbed → m2 (Cell f i) ≡ 0) (b s).claimed
  zero_none m2 i s none =
      EachOf-there (λ e. Unit {0}) (λ e. (j : ℕ) → Cell f i ≡ Cell e.frame j → j < e.scrubbed → m2 (Cell f i) ≡ 0) (λ e. e.frame) (b s).claimed
      (λ e there h j at below. absurd (let q : e.frame ≡ f = cc in let k = subst (λ g. 0 < claims_of g (b s).claimed) q there in omega arith)) (EachOf-all (λ e. Unit {0}) (b s).claimed (λ e. tt))
