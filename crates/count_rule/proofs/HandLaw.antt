-- An act that moves references between the hand and what is recorded, and no word of a frame's own.
use Rattle.std.proofs.Common.{◌≡◌, ◌≢◌, ℕ, ◌+◌, ◌/◌, ◌<◌, refl, ap, arith, IsTrue}
use Rattle.xp_words.specs.Machine.{Machine}
use Rattle.xp_words.specs.declared.place.Place.{Place}
use Rattle.xp_words.specs.declared.place.Place.TheVariants.{Pages, Refs, Kind, Map}
use Rattle.xp_words.specs.Places.{sizes_of}
use Rattle.xp_board.specs.declared.holdings.Holdings.{Holdings}
use Rattle.xp_board.specs.Hands.{refs_to, endings_of, hand, typed_hand}
use Rattle.xp_board.specs.Recorded.{names, names_typed, entries, contexts, is_page_of, TypesAgree}
use Rattle.xp_board.specs.Sound.{Spelled, Stamped, Idle, Sound}
use Rattle.count_rule.proofs.Twins.{EachTwo, SameWork, SameLock, SameClaim}
use Rattle.count_rule.proofs.CountLaw.{counts_law, pages_of}
use Rattle.count_rule.proofs.PartLaws.{alone_law, map_law, works_law}
use Rattle.count_rule.proofs.Quiet.{works_times, locks_times, claims_times, is_closing_at, like_works, works_spared}
use Rattle.count_rule.proofs.Outcome.{Outcome}
use Rattle.xp_board.proofs.Sums.{sum_below-same}

module _ (n : Machine) (s : ℕ) (m m2 : Place → ℕ) (b c : ℕ → Holdings) (vcpu : s < (sizes_of n).vcpus) (others : (t : ℕ) → t ≢ s → c t ≡ b t) where
  pub record HandMove : Type 0 where
    pub ref_words : (g : ℕ) → m2 (Refs g) ≡ m (Refs g)
    pub kind_words : (g : ℕ) → m2 (Kind g) ≡ m (Kind g)
    pub page_words : (d : ℕ) → m2 (Pages d) ≡ m (Pages d)
    pub map_words : (k : ℕ) → m2 (Map k) ≡ m (Map k)
    pub works : EachTwo SameWork (b s).works (c s).works
    pub locks : EachTwo SameLock (b s).locks (c s).locks
    pub ending : (c s).ending ≡ (b s).ending
    pub claimed : EachTwo SameClaim (b s).claimed (c s).claimed
    pub raised : (c s).raised ≡ (b s).raised
    pub credits : (c s).credits ≡ (b s).credits
    pub spares : (g : ℕ) → IsTrue (is_closing_at g (b s)) → 0 < refs_to g (b s).refs → 0 < refs_to g (c s).refs
    -- what goes out of the hand is recorded, and the other way round
    pub refs : (g : ℕ) → entries (names g) (sizes_of n) m2 c + contexts (sizes_of n) m2 g + hand g (c s) ≡ entries (names g) (sizes_of n) m b + contexts (sizes_of n) m g + hand g (b s)
    pub types : (g : ℕ) → entries (names_typed g) (sizes_of n) m2 c + contexts (sizes_of n) m2 g + typed_hand g (c s) ≡ entries (names_typed g) (sizes_of n) m b + contexts (sizes_of n) m g + typed_hand g (b s)
    pub kinds : TypesAgree (sizes_of n) m2 c

  pub hand_outcome : Sound n m b → HandMove → Spelled n m2 → Stamped n m2 → ((v : ℕ) → v < (sizes_of n).vcpus → Idle n m2 c v) → Outcome n m2 c
  hand_outcome sound move spelled stamped idle =
      record {
        spelled = spelled;
        counts =
            counts_law n s m m2 b c vcpu others
            (record {
              refs = λ g. let k = move.refs g in rw (move.ref_words g, move.kind_words g) (omega arith);
              types = λ g. let k = move.types g in rw (move.kind_words g) (omega arith);
              kinds = move.kinds;
              pages = λ d l.
                  let p : pages_of n m2 d ≡ pages_of n m d = sum_below-same _ _ _ (λ f k. ap (is_page_of d) (move.ref_words f)) in
                  rw (move.page_words d, move.credits) (omega arith);
            })
            sound.counts;
        alone =
            alone_law n s m m2 b c vcpu others
            (λ g. let e = works_times (b s) (c s) move.works g in rw (move.kind_words g) (omega arith))
            (λ g. let e = locks_times (b s) (c s) move.locks g in rw (move.kind_words g) (omega arith))
            (λ g. let e = claims_times (b s) (c s) move.claimed g in let k = ap (endings_of g) move.ending in rw (move.ref_words g) (omega arith))
            sound.alone;
        works =
            works_law n s m m2 b c vcpu others
            (works_spared n s m m2 b c vcpu others (like_works (b s).works (c s).works move.works) move.spares sound.alone (sound.works s vcpu))
            sound.works;
        stamped = stamped;
        idle = idle;
        map = map_law n s m m2 b c vcpu others (λ g l. rw (move.ref_words g, move.map_words (g / 64), move.raised) refl) sound.map;
      }
