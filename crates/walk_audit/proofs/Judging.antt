-- What the checks find is the verdict.
use Rattle.std.proofs.Common.{◌≡◌, ℕ, ◌<◌, ◌^◌, List, length, slice_index, unwrap_or, Option, Some, None}
use Rattle.xp_words.specs.Machine.{Machine, IsMachine}
use Rattle.xp_words.specs.Places.{sizes_of, memory, size}
use Rattle.walk_audit.specs.Judged.{Judged}
use Rattle.walk_audit.specs.Order.{ComesFirst, FirstFrom}
use Rattle.walk_audit.specs.declared.verdict.Verdict.{Verdict}
use Rattle.walk_audit.specs.declared.verdict.Verdict.TheVariants as verdicts
use Rattle.walk_audit.proofs.Sounding.{unbroken}

module _ (n : Machine) (words : List ℕ) where
  pub judged : (v : Verdict) → ComesFirst n (memory (sizes_of n) words) v → Judged n words v
  unfolding Judged
  judged verdicts.Sound h = absurd h.breaks
  judged (verdicts.Word k w) h = h
  judged (verdicts.Held f) h = h
  judged (verdicts.Refs f a b) h = h
  judged (verdicts.Count f a b) h = h
  judged (verdicts.OtherKind f) h = h
  judged (verdicts.Pages d a b) h = h
  judged (verdicts.BadEntry f i) h = h
  judged (verdicts.Context v k) h = h
  judged (verdicts.Stamp k) h = h
  judged (verdicts.Dead d) h = h
  judged (verdicts.Map k) h = h

  pub judged_last : (x : Option Verdict) → IsMachine n → length words ≡ size (sizes_of n) → ((k : ℕ) → slice_index words k < 2 ^ 64) → FirstFrom n (memory (sizes_of n) words) x → Judged n words (unwrap_or x verdicts.Sound)
  unfolding Judged
  judged_last None i l s h = unbroken n words i l s h
  judged_last (Some v) i l s h = judged v h
