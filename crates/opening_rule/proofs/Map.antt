-- The map of free frames.
use Rattle.std.proofs.Common.{◌≡◌, ℕ, ◌+◌, ◌*◌, ◌/◌, ◌%◌, ◌<◌, ◌&&◌, nat_lt, Bool, true, find, is_none, refl, sym, ◌∙◌, ap, arith}
use Rattle.std.proofs.lemmas.Bool.Decides.{nat_tests}
use Rattle.xp_words.specs.RefWords.{bit}
use Rattle.xp_words.specs.Entries.{is_bit}
use Rattle.xp_words.specs.declared.place.Place.{Place}
use Rattle.xp_words.specs.declared.place.Place.TheVariants.{Refs, Map}
use Rattle.xp_words.specs.Places.{sizes_of, is_place, map_words}
use Rattle.xp_board.specs.Lists.{times, times_by}
use Rattle.xp_board.specs.Readings.{is_free}
use Rattle.xp_board.specs.Hands.{empty}
use Rattle.xp_board.specs.Sound.{FreeMap, is_hinted}
use Rattle.trace_text.specs.declared.trace.Trace.{Trace}
use Rattle.trace_text.specs.Counted.{has_frame}
use Rattle.machine_build.specs.Opening.{opening_at, is_unowned}
use Rattle.machine_build.proofs.MapLaws.{each_bit}
use Rattle.opening_rule.proofs.Words.{Opens}
use Rattle.opening_rule.proofs.Readings.{free_is_unowned}
use Rattle.opening_rule.proofs.Counts.{hands_none}

raised_none : (f : ℕ) → times f empty.raised ≡ 0
unfolding times_by
raised_none f = refl

module _ (t : Trace) (m : Place → ℕ) (o : Opens t m) where
  map_word : (f : ℕ) → f < t.layout.frames → m (Map (f / 64)) ≡ opening_at t (Map (f / 64))
  unfolding is_place
  map_word f b =
      let few : f / 64 < map_words (sizes_of t.layout) = omega arith in
      o.inside (Map (f / 64)) (grind (arith, nat_tests))

  opens_hinted : (f : ℕ) → f < t.layout.frames → is_bit (f % 64) (opening_at t (Map (f / 64))) ≡ is_unowned t f
  opens_hinted f b =
      let number : 64 * (f / 64) + f % 64 ≡ f = omega arith in
      each_bit t (f / 64) (f % 64) (omega arith) ∙ ap (is_unowned t) number

  hinted : (f : ℕ) → f < t.layout.frames → is_hinted m f ≡ is_free (m (Refs f))
  hinted f b =
      let there : nat_lt f t.layout.frames ≡ true = grind (arith, nat_tests) in
      ap (is_bit (f % 64)) (map_word f b) ∙ opens_hinted f b ∙ ap (λ (c : Bool). c && is_none (find (has_frame f) t.owned)) there
      ∙ sym (free_is_unowned t m o f)

  pub map_open : FreeMap t.layout m (λ s. empty)
  map_open =
      record {
        bits = λ f b. (
            let same = ap bit (hinted f b) in
            let none = hands_none (λ u. times f u.raised) (sizes_of t.layout) (raised_none f) in
            omega arith);
      }
