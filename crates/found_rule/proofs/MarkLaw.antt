-- What a mark keeps: no word changes and no step is made.
use Rattle.std.proofs.Common.{◌≡◌, ◌≢◌, ℕ, ◌<◌, ◌≤◌, length, refl, sym, subst, inl, inr, arith}
use Rattle.std.proofs.lemmas.Bool.{cases_eq}
use Rattle.xp_words.specs.Machine.{Machine}
use Rattle.xp_words.specs.declared.place.Place.{Place}
use Rattle.xp_words.specs.declared.place.Place.TheVariants.{Clock}
use Rattle.xp_words.specs.Places.{sizes_of}
use Rattle.xp_board.specs.declared.holdings.Holdings.{Holdings}
use Rattle.xp_board.specs.Lists.{EachOf}
use Rattle.xp_board.specs.Readings.{domain_of}
use Rattle.xp_board.specs.Found.{WorkFound, ClaimFound, Found}
use Rattle.xp_board.specs.WellFormed.{IsWorkFormed, IsLockFormed, IsCacheFormed, WellFormed}
use Rattle.xp_board.specs.Sound.{Sound}
use Rattle.found_rule.proofs.Growth.{Grown, stayed}
use Rattle.found_rule.proofs.WordFacts.{off_same, cold_same}
use Rattle.found_rule.proofs.Words.{Words}
use Rattle.found_rule.proofs.WordsAt.{words_quiet}
use Rattle.found_rule.proofs.KnownFacts.{RefRight, TypedRight, KnownRight, known_each, owners_by, lives_by, partials_by}
use Rattle.found_rule.proofs.HandFacts.{ReachKept}
use Rattle.found_rule.proofs.FoundLaw.{Offs, their_found}
use Rattle.xp_board.proofs.HandLists.{EachOf-map}
use Rattle.xp_board.proofs.Sums.{seat_same}

-- what no mark moves
pub record MarkKept (a u : Holdings) : Type 0 where
  pub steps : u.steps ≡ a.steps
  pub locks : u.locks ≡ a.locks
  pub ending : u.ending ≡ a.ending
  pub claimed : u.claimed ≡ a.claimed
  pub raised : u.raised ≡ a.raised
  pub looking : u.looking ≡ a.looking
  pub cold : u.cold ≡ a.cold
  pub acked : u.acked ≡ a.acked
  pub ran : u.ran ≡ a.ran
  pub run : u.run ≡ a.run
  pub old0 : u.old0 ≡ a.old0
  pub old1 : u.old1 ≡ a.old1

module _ (n : Machine) (s : ℕ) (m : Place → ℕ) (h b : ℕ → Holdings) (l : s < (sizes_of n).vcpus) (sound : Sound n m h) (others : (t : ℕ) → t ≢ s → b t ≡ h t) (kept : MarkKept (h s) (b s)) where
  grown : (v : ℕ) → Grown (sizes_of n) m m (h v).steps (b v).steps
  grown v = stayed (seat_same (λ y. y.steps) s h b others kept.steps v)

  words : Words n s m m h
  words = words_quiet n s m m h sound (λ q r. refl)

  offs : Offs n m m h b
  unfolding grown
  offs =
      let warm = seat_same (λ y. y.cold) s h b others kept.cold in
      record {
        off = λ v l w found off since. off_same n m m h b v refl (warm v) w refl off;
        cold = λ v l w found since. cold_same n m m h b v refl (warm v) w (omega arith) (seat_same (λ y. y.ran) s h b others kept.ran v) (grown v) found since;
      }

  module _ (reach : ReachKept n m m h b) (refs : EachOf (RefRight (sizes_of n) m (h s).steps) (b s).refs) (typed : EachOf (TypedRight (sizes_of n) m (h s).steps) (b s).typed)
      (works : EachOf (WorkFound n m b (h s)) (b s).works) where
    known : KnownRight (sizes_of n) m (b s)
    known =
        let f = sound.found s l in
        let k = known_each (sizes_of n) m (h s) f.owners f.lives f.partials in
        record { refs = rw (kept.steps) refs; typed = rw (kept.steps) typed; locks = rw (kept.steps, kept.locks) k.locks }

    mine : Found n m b s
    unfolding offs
    mine =
        let f = sound.found s l in
        let e = kept.steps in
        record {
          clock = rw e f.clock;
          flushed = rw e f.flushed;
          stopped = rw e f.stopped;
          life = rw e f.life;
          since_ack = rw (e, kept.acked) f.since_ack;
          since_off = λ v r. rw e (offs.off v r (h s) f.clock (f.since_off v r) (f.cold_off v r));
          cold_off = λ v r. rw e (offs.cold v r (h s) f.clock (f.cold_off v r));
          owners = owners_by (sizes_of n) m (b s) known;
          lives = lives_by (sizes_of n) m (b s) known;
          partials = partials_by (sizes_of n) m (b s) known;
          works = EachOf-map (WorkFound n m b (h s)) (WorkFound n m b (b s)) (b s).works
              (λ y w. record { word = w.word; cells = rw e w.cells; fixed = w.fixed; passed = rw e w.passed }) works;
          locks = rw (e, kept.locks) f.locks;
          endings = rw (kept.ending) f.endings;
          claims = subst (λ xs. EachOf (ClaimFound (sizes_of n) m (domain_of n s) (b s)) xs) (sym kept.claimed) (EachOf-map (ClaimFound (sizes_of n) m (domain_of n s) (h s)) (ClaimFound (sizes_of n) m (domain_of n s) (b s)) (h s).claimed
              (λ y w. record { word = w.word; stamp = w.stamp; cells = rw e w.cells; scrubbed = w.scrubbed }) f.claims);
          privileges = rw e f.privileges;
          own = record { run = rw (kept.run) f.own.run; words = rw e f.own.words };
        }

    pub marked_found : (t : ℕ) → t < (sizes_of n).vcpus → Found n m b t
    unfolding offs words
    marked_found t k = elim (cases_eq t s) [ inl at ↦ rw at mine | inr off ↦ their_found n s Clock m m h b (h s) l sound words reach offs others t k off (others t off) ]

  pub marked_formed : EachOf (IsWorkFormed n (h s)) (b s).works → IsCacheFormed (b s) → (b s).turn ≤ length (h s).steps → (t : ℕ) → t < (sizes_of n).vcpus → WellFormed n t (b t)
  marked_formed works cache turn t k =
      elim (cases_eq t s) [
        | inr off ↦ rw (others t off) (sound.formed t k)
        | inl at ↦
            let f = sound.formed s l in
            let e = kept.steps in
            rw at
            (record {
              works = EachOf-map (IsWorkFormed n (h s)) (IsWorkFormed n (b s)) (b s).works
                  (λ y w. record {
                    recorded = w.recorded;
                    none = w.none;
                    marked = w.marked;
                    seen = rw e w.seen;
                    last = rw e w.last;
                    unsettled = rw e w.unsettled;
                    was_found = rw e w.was_found;
                    fixed = w.fixed;
                    order = w.order;
                    past = rw e w.past;
                  }) works;
              locks = subst (λ xs. EachOf (IsLockFormed n (b s)) xs) (sym kept.locks) (EachOf-map (IsLockFormed n (h s)) (IsLockFormed n (b s)) (h s).locks (λ y w. record { table = w.table; seen = rw e w.seen; past = rw e w.past }) f.locks);
              ending = rw (kept.ending, e) f.ending;
              claimed = rw (kept.claimed, e) f.claimed;
              raised = record { held = λ g. rw (kept.raised, kept.ending, kept.claimed) (f.raised.held g) };
              looking = rw (kept.looking) f.looking;
              cache = cache;
              own = record { run = rw (kept.run, e) f.own.run; old0 = rw (kept.old0, e) f.own.old0; old1 = rw (kept.old1, e) f.own.old1 };
              places = rw e f.places;
              turn = rw e turn;
              acked = rw (kept.acked, e) f.acked;
              ran = rw (kept.ran, e) f.ran;
            })
      ]
