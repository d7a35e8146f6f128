-- What is counted is the same without the hands of vCPUs that hold nothing.
use Rattle.std.proofs.Common.{◌≡◌, ℕ, ◌+◌, ◌<◌, [], None, refl, sym, ap, subst, ◌∙◌}
use Rattle.xp_words.specs.declared.entry.Demand.{Demand}
use Rattle.xp_words.specs.Machine.{Machine}
use Rattle.xp_words.specs.declared.place.Place.{Place}
use Rattle.xp_words.specs.declared.place.Place.TheVariants.{Refs}
use Rattle.xp_words.specs.Places.{sizes_of}
use Rattle.xp_board.specs.declared.holdings.Holdings.{Holdings}
use Rattle.xp_board.specs.Lists.{times, first_by, EachOf}
use Rattle.xp_board.specs.Sums.{sum_below}
use Rattle.xp_words.specs.RefWords.{bit}
use Rattle.xp_board.specs.Readings.{kind_at, is_free}
use Rattle.xp_board.specs.Hands.{hand, typed_hand, works_on, locks_on, endings_of, claims_of, empty, IsEmptyHand}
use Rattle.xp_board.specs.Recorded.{recorded_in, work_of, held_of, held, table_entries, entries, hands, named, named_typed, names, names_typed, TypesAgree, CountsAgree, is_page_of}
use Rattle.xp_board.specs.Sound.{HeldAlone, FreeMap}
use Rattle.xp_board.proofs.Sums.{sum_below-same}
use Rattle.xp_board.proofs.Works.{work_of-none}

-- no vCPU holds anything
abbrev pub Nobody : ℕ → Holdings
Nobody s = empty

-- ---- one hand
hand_rested : (g : ℕ) (u : Holdings) → IsEmptyHand u → hand g u ≡ hand g empty
unfolding hand typed_hand
hand_rested g u r = rw (r.refs, r.typed, r.locks)

typed_rested : (g : ℕ) (u : Holdings) → IsEmptyHand u → typed_hand g u ≡ typed_hand g empty
unfolding typed_hand
typed_rested g u r = rw (r.typed, r.locks)

dying_rested : (f : ℕ) (u : Holdings) → IsEmptyHand u → endings_of f u.ending + claims_of f u.claimed ≡ endings_of f empty.ending + claims_of f empty.claimed
dying_rested f u r = rw (r.ending, r.claimed)

recorded_rested : (f : ℕ) (u : Holdings) → IsEmptyHand u → recorded_in u.works f ≡ None
unfolding recorded_in first_by
recorded_rested f u r = rw r.works

recorded_nobody : (f : ℕ) → recorded_in [] f ≡ None
unfolding recorded_in first_by
recorded_nobody f = refl

-- ---- all hands
module _ (n : Machine) (m : Place → ℕ) (h : ℕ → Holdings) (rest : (s : ℕ) → s < (sizes_of n).vcpus → IsEmptyHand (h s)) where
  hands_rested : (c : Holdings → ℕ) → ((u : Holdings) → IsEmptyHand u → c u ≡ c empty) → hands c (sizes_of n) h ≡ hands c (sizes_of n) Nobody
  unfolding hands
  hands_rested c e = sum_below-same (sizes_of n).vcpus (λ s. c (h s)) (λ s. c empty) (λ s b. e (h s) (rest s b))

  work_rested : (f : ℕ) → work_of (sizes_of n).vcpus h f ≡ work_of (sizes_of n).vcpus Nobody f
  work_rested f =
      work_of-none (sizes_of n).vcpus h f (λ s b. recorded_rested f (h s) (rest s b)) ∙ sym (work_of-none (sizes_of n).vcpus Nobody f (λ s b. recorded_nobody f))

  pub held_rested : (f : ℕ) → held (sizes_of n) m h f ≡ held (sizes_of n) m Nobody f
  held_rested f = ap (λ o. held_of (kind_at m f) o) (work_rested f)

  entries_rested : (c : Demand → ℕ) → entries c (sizes_of n) m h ≡ entries c (sizes_of n) m Nobody
  unfolding entries
  entries_rested c =
      sum_below-same (sizes_of n).frames (λ f. table_entries c m (work_of (sizes_of n).vcpus h f) f)
      (λ f. table_entries c m (work_of (sizes_of n).vcpus Nobody f) f) (λ f b. ap (λ o. table_entries c m o f) (work_rested f))

  named_rested : (g : ℕ) → named (sizes_of n) m h g ≡ named (sizes_of n) m Nobody g
  named_rested g =
      let a = entries_rested (names g) in
      let b = hands_rested (hand g) (hand_rested g) in
      rw (a, b)

  named_typed_rested : (g : ℕ) → named_typed (sizes_of n) m h g ≡ named_typed (sizes_of n) m Nobody g
  named_typed_rested g =
      let a = entries_rested (names_typed g) in
      let b = hands_rested (typed_hand g) (typed_rested g) in
      rw (a, b)

  -- ---- the parts of what the machine keeps that count
  types_rested : TypesAgree (sizes_of n) m h → TypesAgree (sizes_of n) m Nobody
  unfolding EachOf
  types_rested t =
      record {
        entries = λ f i g k b d. t.entries f i g k (subst (λ x. i < x) (sym (held_rested f)) b) d;
        contexts = t.contexts;
        typed = λ s b. tt;
        locks = λ s b. tt;
      }

  pub counts_rested : CountsAgree (sizes_of n) m h → CountsAgree (sizes_of n) m Nobody
  counts_rested t =
      record {
        refs = λ g. t.refs g ∙ named_rested g;
        types = λ g. t.types g ∙ named_typed_rested g;
        kinds = types_rested t.kinds;
        pages = λ d b.
            t.pages d b
            ∙ ap (λ k. sum_below (sizes_of n).frames (λ f. is_page_of d (m (Refs f))) + k)
            (hands_rested (λ u. times d u.credits) (λ u r. ap (λ xs. times d xs) r.credits));
      }

  pub alone_rested : HeldAlone n m h → HeldAlone n m Nobody
  alone_rested t =
      record {
        works = λ f. sym (hands_rested (λ u. works_on f u.works) (λ u r. ap (λ xs. works_on f xs) r.works)) ∙ t.works f;
        locks = λ f. sym (hands_rested (λ u. locks_on f u.locks) (λ u r. ap (λ xs. locks_on f xs) r.locks)) ∙ t.locks f;
        dying = λ f. sym (hands_rested (λ u. endings_of f u.ending + claims_of f u.claimed) (dying_rested f)) ∙ t.dying f;
      }

  pub map_rested : FreeMap n m h → FreeMap n m Nobody
  map_rested t =
      record {
        bits = λ f b.
            t.bits f b
            ∙ ap (λ k. bit (is_free (m (Refs f))) + k) (hands_rested (λ u. times f u.raised) (λ u r. ap (λ xs. times f xs) r.raised));
      }
