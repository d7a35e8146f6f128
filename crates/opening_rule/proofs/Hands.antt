-- What holds of empty hands on the opening words.
use Rattle.std.proofs.Common.{◌≡◌, ℕ, ◌+◌, refl, arith}
use Rattle.xp_words.specs.Machine.{Machine}
use Rattle.xp_words.specs.declared.place.Place.{Place}
use Rattle.xp_words.specs.Places.{Sizes, sizes_of}
use Rattle.xp_board.specs.Lists.{times_by, some_of, Member, EachOf}
use Rattle.xp_board.specs.Steps.{EachStep, steps_before}
use Rattle.xp_board.specs.Knowledge.{knows_owner, knows_live, knows_partial}
use Rattle.xp_board.specs.Hands.{empty, works_on, locks_on, endings_of, claims_of}
use Rattle.xp_board.specs.Reach.{Use, Reach, cached, walked, entry}
use Rattle.xp_board.specs.Fresh.{Fresh}
use Rattle.xp_board.specs.Found.{Found}
use Rattle.xp_board.specs.Sound.{HeldAlone, Stamped, Idle, Domains}
use Rattle.trace_text.specs.declared.trace.Trace.{Trace}
use Rattle.opening_rule.proofs.Words.{Opens, life_word, flushed_word}
use Rattle.opening_rule.proofs.Readings.{kind_is, not_dying, stamp_zero, kind_stamp_zero}
use Rattle.opening_rule.proofs.Counts.{hands_none}
use Rattle.xp_board.proofs.Empty.{empty_own_found}

-- ---- each frame in no hand
works_none : (f : ℕ) → works_on f empty.works ≡ 0
unfolding times_by
works_none f = refl

locks_none : (f : ℕ) → locks_on f empty.locks ≡ 0
unfolding times_by
locks_none f = refl

ends_none : (f : ℕ) → endings_of f empty.ending + claims_of f empty.claimed ≡ 0
unfolding times_by
ends_none f = refl

module _ (t : Trace) (m : Place → ℕ) (o : Opens t m) where
  pub alone_open : HeldAlone t.layout m (λ s. empty)
  alone_open =
      record {
        works = λ f. rw (kind_is t m o f) (hands_none (λ u. works_on f u.works) (sizes_of t.layout) (works_none f));
        locks = λ f. rw (kind_is t m o f) (hands_none (λ u. locks_on f u.locks) (sizes_of t.layout) (locks_none f));
        dying = λ f. rw (not_dying t m o f) (hands_none (λ u. endings_of f u.ending + claims_of f u.claimed) (sizes_of t.layout) (ends_none f));
      }

  pub stamped_open : Stamped t.layout m
  stamped_open =
      record {
        flushed = flushed_word t m o;
        free = λ f. (let z = stamp_zero t m o f in omega arith);
        kinds = λ f. (let z = kind_stamp_zero t m o f in omega arith);
      }

  pub domains_open : Domains t.layout m (λ s. empty)
  domains_open =
      record {
        dead = λ d b e. (let z = life_word t m o d in absurd (omega arith));
        dying = λ d s b c e. (let z = life_word t m o d in absurd (omega arith));
      }

pub found_open : (n : Machine) (m : Place → ℕ) (s : ℕ) → Found n m (λ s. empty) s
unfolding EachOf EachStep steps_before knows_owner knows_live knows_partial some_of
found_open n m s =
    record {
      clock = tt;
      flushed = λ v. tt;
      stopped = λ v. tt;
      life = λ d. tt;
      since_ack = tt;
      since_off = λ v b. tt;
      cold_off = λ v b e. absurd (cc);
      owners = λ f o e. absurd (cc);
      lives = λ f u e. absurd (cc);
      partials = λ f u e. absurd (cc);
      works = tt;
      locks = tt;
      endings = tt;
      claims = tt;
      privileges = λ d o b. tt;
      own = empty_own_found (sizes_of n) m s;
    }

-- ---- idle
pub idle_open : (n : Machine) (m : Place → ℕ) (v : ℕ) → Idle n m (λ s. empty) v
idle_open n m v =
    record {
      hand = λ e. record { refs = refl; typed = refl; works = refl; locks = refl; ending = refl; claimed = refl; raised = refl; credits = refl; looking = refl };
      cache = λ e. refl;
      walk = λ e. refl;
      cold_cache = λ e. refl;
      cold_walk = λ e. refl;
    }

-- ---- nothing reached
unreached : (z : Sizes) (m : Place → ℕ) (g : ℕ) (u : Use) → Reach z m empty g u → ⊥
unfolding Member
unreached z m g u (cached x here) = here
unreached z m g u (walked x here) = here
unreached z m g u (entry f level i before a b c) = unreached z m f _ before

pub fresh_open : (n : Machine) (m : Place → ℕ) → Fresh n m (λ s. empty)
fresh_open n m =
    record {
      each = λ v b g u r. absurd (unreached (sizes_of n) m g u r);
      one_use = λ v w g t u a b r q x y. absurd (unreached (sizes_of n) m g t r);
    }
