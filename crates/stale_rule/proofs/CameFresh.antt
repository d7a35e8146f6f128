-- What a vCPU comes to after a step that changes no word but a cell: what it came to before, what serves its use,
-- or to read what it came to to write. All of it is fresh.
use Rattle.std.proofs.Common.{◌≡◌, ◌≢◌, ℕ, ◌+◌, ◌<◌, ◌⊎◌, inl, inr, true, List, refl, sym, ◌∙◌, ap, subst, arith, IsTrue}
use Rattle.xp_words.specs.declared.kind.PageType.{PageType}
use Rattle.xp_words.specs.Entries.{is_bit, frame_of}
use Rattle.xp_words.specs.Machine.{Machine}
use Rattle.xp_words.specs.declared.place.Place.{Place}
use Rattle.xp_words.specs.declared.place.Place.TheVariants.{Refs, Cell}
use Rattle.xp_words.specs.Places.{sizes_of, flushed_of}
use Rattle.xp_board.specs.declared.step.Item.{Item}
use Rattle.xp_board.specs.declared.holdings.Reached.{Reached}
use Rattle.xp_board.specs.declared.holdings.Holdings.{Holdings}
use Rattle.xp_board.specs.Lists.{times_by, EachOf, Member}
use Rattle.xp_board.specs.FillSteps.{is_walked}
use Rattle.xp_board.specs.Readings.{kind_at, domain_of}
use Rattle.xp_board.specs.Hands.{endings_of, claims_of}
use Rattle.xp_board.specs.Reach.{Use, Table, Writes, Reads, use_of, use_below, reached_by, Reach, entry}
use Rattle.xp_board.specs.Fresh.{Matches, FreshAt}
use Rattle.xp_board.specs.Sound.{Sound}
use Rattle.stale_rule.proofs.Bearing.{bears_read}
use Rattle.xp_board.proofs.KindForms.{live_unmarked}
use Rattle.stale_rule.proofs.Served.{Served, entry_served}
use Rattle.xp_board.proofs.HeldByForm.{live_idle}
use Rattle.xp_board.proofs.Works.{nobody_works, nobody_ends}
use Rattle.xp_board.proofs.ReachAll.{IsLevel, Reach-all, reach_level, unmarked_matches}
use Rattle.xp_board.proofs.CellAlike.{CellAlike}
use Rattle.xp_board.proofs.HandLists.{EachOf-map}
use Rattle.xp_board.proofs.ListCounts.{EachOf-apart}
use Rattle.xp_board.proofs.RefForms.{counted_word}
use Rattle.xp_board.proofs.WalkDown.{Passes, passes_alike}

abbrev pub Came : Machine → (Place → ℕ) → (ℕ → Holdings) → ℕ → ℕ → Use → Type 0
Came n m h v g u = Reach (sizes_of n) m (h v) g u ⊎ (Served m (domain_of n v) g u ⊎ ((u ≡ Reads) × Reach (sizes_of n) m (h v) g Writes))

-- ---- lists in which a frame does not stand

EachOf-none : {A : Type 0} (key : A → ℕ) (g : ℕ) (Q : A → Type 0) (xs : List A) → times_by key g xs ≡ 0 → EachOf (λ e. key e ≡ g → Q e) xs
EachOf-none key g Q xs none = EachOf-map (λ e. key e ≢ g) _ xs (λ e off at. absurd (off at)) (EachOf-apart key g xs none)

-- ---- what serves is fresh
module _ (n : Machine) (m : Place → ℕ) (h : ℕ → Holdings) (sound : Sound n m h) where
  served_fresh : (v g : ℕ) (u : Use) → Served m (domain_of n v) g u → FreshAt n m h v g u
  served_fresh v g u served =
      let word = counted_word (m (Refs g)) served.counted in
      let none : (s : ℕ) → s < (sizes_of n).vcpus → endings_of g (h s).ending + claims_of g (h s).claimed ≡ 0 =
      λ s real.
      nobody_ends n m h sound.alone g word.1 s real in
      record {
        owner = served.owner;
        free = λ e. absurd (let k = word.0 in cc);
        unclaimed = λ s real. (let k = none s real in omega arith);
        bears = record {
          typed = λ other. inl (live_unmarked n m g sound.spelled (served.serves.live other), served.serves.matches other);
          dead = λ other d. absurd (let live = served.serves.live other in cc);
        };
        awaited = λ s real.
            record {
              ending = EachOf-none (λ e. e.frame) g _ (h s).ending (let k = none s real in omega arith);
              work = λ other.
                  EachOf-none (λ e. e.frame) g _ (h s).works
                  (nobody_works n m h sound.alone g (live_idle (kind_at m g) (served.serves.live other) (served.serves.number other)) s real);
            };
      }

  -- to read what may be written
  reads_fresh : (v g : ℕ) → FreshAt n m h v g Writes → FreshAt n m h v g Reads
  reads_fresh v g old =
      record {
        owner = old.owner;
        free = old.free;
        unclaimed = old.unclaimed;
        bears = bears_read (m (flushed_of v)) (kind_at m g) Reads (λ n. n refl);
        awaited = λ s real. record { ending = (old.awaited s real).ending; work = λ other. absurd (other refl) };
      }

  pub came_fresh : (v g : ℕ) (u : Use) → v < (sizes_of n).vcpus → Came n m h v g u → FreshAt n m h v g u
  came_fresh v g u real (inl r) = sound.fresh.each v real g u r
  came_fresh v g u real (inr (inl served)) = served_fresh v g u served
  came_fresh v g u real (inr (inr read)) = subst (λ k. FreshAt n m h v g k) (sym read.0) (reads_fresh v g (sound.fresh.each v real g Writes read.1))

  -- ---- all uses of a frame are one
  use_of_type : (t : PageType) (u w : Use) → IsLevel u → IsLevel w → u ≢ Reads → w ≢ Reads → Matches t u → Matches t w → u ≡ w
  use_of_type t (Table l) (Table k) a b x y p q = ap Table (sym p ∙ q)
  use_of_type t Writes Writes a b x y p q = refl
  use_of_type t (Table l) Writes a b x y p q = absurd (let hi = a.1 in omega arith)
  use_of_type t Writes (Table k) a b x y p q = absurd (let hi = b.1 in omega arith)
  use_of_type t Reads w a b x y p q = absurd (x refl)
  use_of_type t u Reads a b x y p q = absurd (y refl)

  -- a live frame has the type of each use that is made of it
  pub live_matches : (v g : ℕ) (u : Use) → v < (sizes_of n).vcpus → (kind_at m g).validated ≡ true → u ≢ Reads → Reach (sizes_of n) m (h v) g u → Matches (kind_at m g).kind u
  live_matches v g u real live other r = unmarked_matches n m h sound v g u real (live_unmarked n m g sound.spelled live) other r

  served_one : (v w g : ℕ) (u k : Use) → w < (sizes_of n).vcpus → Served m (domain_of n v) g u → Came n m h w g k → u ≢ Reads → k ≢ Reads → u ≡ k
  served_one v w g u k real one (inl r) x y =
      use_of_type (kind_at m g).kind u k one.serves.level (reach_level n m h sound w g k real r) x y (one.serves.matches x) (live_matches w g k real (one.serves.live x) y r)
  served_one v w g u k real one (inr (inl two)) x y = use_of_type (kind_at m g).kind u k one.serves.level two.serves.level x y (one.serves.matches x) (two.serves.matches y)
  served_one v w g u k real one (inr (inr read)) x y = absurd (y read.0)

  pub came_one : (v w g : ℕ) (t u : Use) → v < (sizes_of n).vcpus → w < (sizes_of n).vcpus → Came n m h v g t → Came n m h w g u → t ≢ Reads → u ≢ Reads → t ≡ u
  came_one v w g t u real other (inl r) (inl q) x y = sound.fresh.one_use v w g t u real other r q x y
  came_one v w g t u real other (inl r) (inr (inl served)) x y = sym (served_one w v g u t real served (inl r) y x)
  came_one v w g t u real other (inl r) (inr (inr read)) x y = absurd (y read.0)
  came_one v w g t u real other (inr (inl served)) q x y = served_one v w g t u other served q x y
  came_one v w g t u real other (inr (inr read)) q x y = absurd (x read.0)

-- ---- how far a vCPU comes

-- the targets of an entry are come to from a table that is come to
abbrev pub PassesOn : Machine → (Place → ℕ) → (Place → ℕ) → (ℕ → Holdings) → ℕ → ℕ → ℕ → Type 0
PassesOn n m m2 h v f i = Passes (sizes_of n) m2 (Came n m h v) f i

module _ (n : Machine) (m m2 : Place → ℕ) (h : ℕ → Holdings) (sound : Sound n m h) (v : ℕ) where
  entry_came : (f level i : ℕ) → Came n m h v f (Table level) → IsTrue (is_walked level i) → is_bit 0 (m (Cell f i)) ≡ true → frame_of (m (Cell f i)) < (sizes_of n).frames →
      Came n m h v (frame_of (m (Cell f i))) (use_below level (m (Cell f i)))
  entry_came f level i (inl r) walked present inside = inl (entry f level i r walked present inside)
  entry_came f level i (inr (inl served)) walked present inside = inr (inl (entry_served n m h sound (domain_of n v) level f i served walked present))
  entry_came f level i (inr (inr read)) walked present inside = absurd (let e = read.0 in cc)

  pub alike_passes : (f i : ℕ) → CellAlike (m (Cell f i)) (m2 (Cell f i)) → PassesOn n m m2 h v f i
  alike_passes f i alike = passes_alike (sizes_of n) m m2 (Came n m h v) f i alike (λ level came deep present inside. entry_came f level i came deep present inside)

  pub came_all : (b : Holdings) → ((x : Item) → Member x b.cache → Came n m h v x.frame (use_of x)) →
      ((x : Reached) → Member x (reached_by b.walk) → Came n m h v x.table (Table x.level)) → ((f i : ℕ) → PassesOn n m m2 h v f i) →
      (g : ℕ) (u : Use) → Reach (sizes_of n) m2 b g u → Came n m h v g u
  came_all b items tables passes g u r =
      Reach-all (λ g u. Came n m h v g u) items tables (λ f level i came walked present inside. passes f i level came walked present inside) r
