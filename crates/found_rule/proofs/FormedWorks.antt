-- Frames in work and under a lock stay well formed: what is noted of a cell is the word found there last.
use Rattle.std.proofs.Common.{◌≡◌, ◌≢◌, ℕ, ◌+◌, ◌-◌, ◌<◌, ◌≤◌, ◌==◌, ◌&&◌, if◌then◌else◌, Bool, true, false, List, length, Option, Some, None, IsTrue, refl, sym, ap, ◌∙◌, arith}
use Rattle.std.proofs.lemmas.Bool.{eqb-true, eqb-false, and_parts}
use Rattle.xp_words.specs.declared.kind.PageType.TheVariants as kinds
use Rattle.xp_words.specs.KindWords.{kind_fields}
use Rattle.xp_words.specs.Machine.{Machine}
use Rattle.xp_words.specs.declared.place.Place.{Place}
use Rattle.xp_words.specs.declared.place.Place.TheVariants.{Kind, Cell}
use Rattle.xp_words.specs.Places.{Sizes, sizes_of}
use Rattle.xp_board.specs.declared.holdings.Made.{Made}
use Rattle.xp_board.specs.declared.holdings.Seen.{Seen}
use Rattle.xp_board.specs.declared.holdings.Unsettled.{Unsettled}
use Rattle.xp_board.specs.declared.holdings.Work.{Work}
use Rattle.xp_board.specs.declared.holdings.Lock.{Lock}
use Rattle.xp_board.specs.declared.holdings.Holdings.{Holdings}
use Rattle.xp_board.specs.Steps.{last_since, some_before}
use Rattle.xp_board.specs.After.{learned_work, learned_lock, learned_last, counts_fixed, is_fixed}
use Rattle.xp_board.specs.Readings.{is_type}
use Rattle.xp_board.specs.WellFormed.{SeenIs, LastIs, IsWorkFormed, IsLockFormed}
use Rattle.xp_board.proofs.EntryWords.{type_same}

-- what is well formed, and nothing is recorded of it while it is marked
pub record FormedWork (n : Machine) (a : Holdings) (e : Work) : Type 0 where
  pub formed : IsWorkFormed n a e
  pub marked : (kind_fields e.word).unflushed ≡ true → e.recorded ≡ 0

seen_same : (z : Sizes) (n f : ℕ) (xs ys : List Made) (o : Option Seen) → ((i : ℕ) → last_since z n (Cell f i) ys ≡ last_since z n (Cell f i) xs) →
    SeenIs z n f xs o → SeenIs z n f ys o
seen_same z n f xs ys (Some s) e h = e s.index ∙ h
seen_same z n f xs ys None e h = tt

last_same : (z : Sizes) (e : Work) (xs ys : List Made) (o : Option Unsettled) → ((i : ℕ) → last_since z e.unmarked (Cell e.frame i) ys ≡ last_since z e.unmarked (Cell e.frame i) xs) →
    LastIs z e xs o → LastIs z e ys o
last_same z e xs ys (Some u) k h = λ w t. k (e.recorded - 1) ∙ h w t
last_same z e xs ys None k h = tt

pub seen_none : (z : Sizes) (n f : ℕ) (ys : List Made) (o : Option Seen) → o ≡ None → SeenIs z n f ys o
seen_none z n f ys (Some s) e = absurd cc
seen_none z n f ys None e = tt

pub last_none : (z : Sizes) (e : Work) (ys : List Made) (o : Option Unsettled) → ((x : Unsettled) → o ≡ Some x → ⊥) → LastIs z e ys o
last_none z e ys (Some u) h = absurd (h u refl)
last_none z e ys None h = tt

module _ (n : Machine) (a b : Holdings) (longer : length a.steps ≤ length b.steps)
    (was_found : (o : ℕ) (p : Place) (test : ℕ → Bool) → IsTrue (some_before (sizes_of n) o p test a.steps) → IsTrue (some_before (sizes_of n) o p test b.steps)) where
  -- no word of the frame was found
  pub work_stays : (e : Work) → ((i : ℕ) → last_since (sizes_of n) e.unmarked (Cell e.frame i) b.steps ≡ last_since (sizes_of n) e.unmarked (Cell e.frame i) a.steps) →
      IsWorkFormed n a e → IsWorkFormed n b e
  work_stays e k c =
      record {
        recorded = c.recorded;
        none = c.none;
        marked = c.marked;
        seen = seen_same (sizes_of n) e.unmarked e.frame a.steps b.steps e.seen k c.seen;
        last = last_same (sizes_of n) e a.steps b.steps e.unsettled k c.last;
        unsettled = λ x t. let u = c.unsettled x t in (u.0, (let v = u.1 in omega arith));
        was_found = λ t. was_found e.since (Kind e.frame) (λ w. w == e.word) (c.was_found t);
        fixed = c.fixed;
        order = c.order;
        past = let p = c.past in omega arith;
      }

  -- the frame is marked: the word found tells nothing
  work_marked : (e : Work) → (kind_fields e.word).unflushed ≡ true → FormedWork n a e → IsWorkFormed n b e
  work_marked e m f =
      let c = f.formed in
      record {
        recorded = c.recorded;
        none = c.none;
        marked = c.marked;
        seen = seen_none (sizes_of n) e.unmarked e.frame b.steps e.seen (c.marked m);
        last = last_none (sizes_of n) e b.steps e.unsettled (λ x t. let u = (c.unsettled x t).0 in let r = f.marked m in omega arith);
        unsettled = λ x t. let u = c.unsettled x t in (u.0, (let v = u.1 in omega arith));
        was_found = λ t. was_found e.since (Kind e.frame) (λ w. w == e.word) (c.was_found t);
        fixed = c.fixed;
        order = c.order;
        past = let p = c.past in omega arith;
      }

  module _ (i w : ℕ) (e : Work) (here : last_since (sizes_of n) e.unmarked (Cell e.frame i) b.steps ≡ Some w)
      (off : (j : ℕ) → i ≢ j → last_since (sizes_of n) e.unmarked (Cell e.frame j) b.steps ≡ last_since (sizes_of n) e.unmarked (Cell e.frame j) a.steps) where
    last_if : (u : Unsettled) (t : Bool) → (i + 1 == e.recorded) ≡ t → 0 < e.recorded → LastIs (sizes_of n) e a.steps (Some u) →
        LastIs (sizes_of n) e b.steps (if t then Some (record u { word = Some w }) else Some u)
    last_if u true q l h = λ x y. let k : i ≡ e.recorded - 1 = (let r = eqb-true (i + 1) e.recorded q in omega arith) in ap (λ j. last_since (sizes_of n) e.unmarked (Cell e.frame j) b.steps) (sym k) ∙ here ∙ y
    last_if u false q l h = λ x y. off (e.recorded - 1) (λ k. eqb-false (i + 1) e.recorded q (omega arith)) ∙ h x y

    last_learned : (o : Option Unsettled) → ((x : Unsettled) → o ≡ Some x → 0 < e.recorded) → LastIs (sizes_of n) e a.steps o → LastIs (sizes_of n) e b.steps (learned_last i e.recorded w o)
    last_learned (Some u) l h = last_if u (i + 1 == e.recorded) refl (l u refl) h
    last_learned None l h = tt

    since_if : (u x : Unsettled) (t : Bool) → (if t then Some (record u { word = Some w }) else Some u) ≡ Some x → x.since ≡ u.since
    since_if u x true q = let k : record u { word = Some w } ≡ x = cc in sym (ap (λ y. y.since) k)
    since_if u x false q = let k : u ≡ x = cc in sym (ap (λ y. y.since) k)

    unsettled_learned : (o : Option Unsettled) → ((x : Unsettled) → o ≡ Some x → (0 < e.recorded) × (x.since ≤ length a.steps)) →
        (x : Unsettled) → learned_last i e.recorded w o ≡ Some x → (0 < e.recorded) × (x.since ≤ length b.steps)
    unsettled_learned (Some u) l x t = let k = l u refl in let q = since_if u x (i + 1 == e.recorded) t in (k.0, (let r = k.1 in omega arith))
    unsettled_learned None l x t = absurd cc

    -- the words that are known to be fixed are those of a descriptor page
    fixed_learned : (t : Bool) → counts_fixed i w e ≡ t → (kind_fields e.word).unflushed ≡ false → (0 < e.fixed → ((kind_fields e.word).unflushed ≡ false) × ((kind_fields e.word).kind ≡ kinds.Desc)) →
        0 < (if t then e.fixed + 1 else e.fixed) → ((kind_fields e.word).unflushed ≡ false) × ((kind_fields e.word).kind ≡ kinds.Desc)
    fixed_learned true q off h some = (off, type_same (kind_fields e.word).kind kinds.Desc (and_parts (is_type (kind_fields e.word).kind kinds.Desc) ((i == e.fixed) && is_fixed w) q).0)
    fixed_learned false q off h some = h some

    work_learned_if : (t : Bool) → (kind_fields e.word).unflushed ≡ t → FormedWork n a e →
        IsWorkFormed n b (if t then e else record e { seen = Some (record { index = i; word = w }); unsettled = learned_last i e.recorded w e.unsettled; fixed = if counts_fixed i w e then e.fixed + 1 else e.fixed })
    work_learned_if true m f = work_marked e m f
    work_learned_if false m f =
        let c = f.formed in
        record {
          recorded = c.recorded;
          none = c.none;
          marked = λ t. absurd (cc);
          seen = here;
          last = last_learned e.unsettled (λ x t. (c.unsettled x t).0) c.last;
          unsettled = unsettled_learned e.unsettled c.unsettled;
          was_found = λ t. was_found e.since (Kind e.frame) (λ y. y == e.word) (c.was_found t);
          fixed = fixed_learned (counts_fixed i w e) refl m c.fixed;
          order = c.order;
          past = let p = c.past in omega arith;
        }

    -- the word of cell i was found
    pub work_learned : FormedWork n a e → IsWorkFormed n b (learned_work i w e)
    work_learned f = work_learned_if (kind_fields e.word).unflushed refl f

  pub lock_stays : (e : Lock) → ((i : ℕ) → last_since (sizes_of n) e.since (Cell e.frame i) b.steps ≡ last_since (sizes_of n) e.since (Cell e.frame i) a.steps) →
      IsLockFormed n a e → IsLockFormed n b e
  lock_stays e k c =
      record { table = c.table; seen = seen_same (sizes_of n) e.since e.frame a.steps b.steps e.seen k c.seen; past = (let p = c.past in omega arith) }

  pub lock_learned : (i w : ℕ) (e : Lock) → last_since (sizes_of n) e.since (Cell e.frame i) b.steps ≡ Some w → IsLockFormed n a e → IsLockFormed n b (learned_lock i w e)
  lock_learned i w e here c = record { table = c.table; seen = here; past = (let p = c.past in omega arith) }
