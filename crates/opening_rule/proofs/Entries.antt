-- What entries and words of vCPUs lead to: nothing is recorded, and each such word is 0.
use Rattle.std.proofs.Common.{◌≡◌, ℕ, false, IsTrue, refl, arith}
use Rattle.std.proofs.lemmas.Bool.{and_parts}
use Rattle.xp_words.specs.declared.place.Place.{Place}
use Rattle.xp_words.specs.declared.place.Place.TheVariants.{Vcpu}
use Rattle.xp_words.specs.Places.{sizes_of}
use Rattle.xp_board.specs.Hands.{empty}
use Rattle.xp_board.specs.Readings.{kind_at, is_live}
use Rattle.xp_board.specs.Valid.{Valid, Permitted, is_live_context}
use Rattle.trace_text.specs.declared.trace.Trace.{Trace}
use Rattle.opening_rule.proofs.Words.{Opens}
use Rattle.opening_rule.proofs.Readings.{kind_is}
use Rattle.opening_rule.proofs.Counts.{nothing_held, context_word}

module _ (t : Trace) (m : Place → ℕ) (o : Opens t m) where
  live_word : (v k : ℕ) → IsTrue (is_live_context k) → m (Vcpu v k) ≡ 0
  live_word v k e = context_word t m o v k (and_parts _ _ e).0

  not_live : (f : ℕ) → is_live (kind_at m f) ≡ false
  not_live f = rw (kind_is t m o f) refl

  pub valid_open : Valid (sizes_of t.layout) m (λ s. empty)
  valid_open =
      record {
        allowed = λ f i b e. (let z = nothing_held t m o f in absurd (omega arith));
        live = λ f i g u b e. (let z = nothing_held t m o f in absurd (omega arith));
        fixed = λ f i l e b. (let z = not_live f in absurd (cc));
        contexts = λ v k g a b l e. (let z = live_word v k l in absurd (omega arith));
      }

  pub permitted_open : Permitted t.layout m (λ s. empty)
  permitted_open =
      record {
        typed = λ f i g u b e. (let z = nothing_held t m o f in absurd (omega arith));
        plain = λ f i g b e. (let z = nothing_held t m o f in absurd (omega arith));
        contexts = λ v k g a b l e. (let z = live_word v k l in absurd (omega arith));
      }
