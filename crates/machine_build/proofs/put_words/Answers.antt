use Rattle.std.proofs.Common.{◌≡◌, ◌∙◌, ℕ, ◌<◌, List, ap, length, arith, reverse}
use Rattle.std.proofs.Math.ListN.{length-set, length-replicate}
use Rattle.xp_words.specs.declared.place.Place.{Place}
use Rattle.xp_words.specs.Places.{sizes_of, size, number, memory}
use Rattle.machine_build.specs.Puts.{all_zero, with_cells}
use Rattle.machine_build.proofs.Steps.{clock-inside, same_cells}
use Rattle.machine_build.proofs.Whole.{only_clock, all_words, zero_words}
use Rattle.machine_build.proofs.put_words.Goals as goal

pub set-requires : goal.set-requires
unfolding number
set-requires c = let inside : 0 < size (sizes_of c.args.trace.now.layout) = clock-inside _ in rw (c.put_cells.ensures.count, c.requires.zero) (omega (arith, length-replicate {A = ℕ}))

pub returns : goal.returns
unfolding number
returns c =
    let z = sizes_of c.args.trace.now.layout in
    let zero : length c.args.words.now ≡ size z = ap length c.requires.zero ∙ length-replicate (size z) 0 in
    let cells : (p : Place) → memory z c.put_cells.new.words p ≡ with_cells (reverse c.args.trace.now.cells) all_zero p =
    λ p. rw c.as_slice.ensures at (c.put_cells.ensures.words p) ∙ same_cells (reverse c.args.trace.now.cells) (memory z c.args.words.now) all_zero (λ q. ap (λ (words : List ℕ). memory z words q) c.requires.zero ∙ zero_words z q) p in
    let stand : length c.put_cells.new.words ≡ size z = c.put_cells.ensures.count ∙ zero in
    let clock : length c.set.new.self ≡ size z = rw c.set.ensures (length-set c.put_cells.new.words 0 c.args.trace.now.clock) ∙ stand in
    record {
      count = c.put_map.ensures.count ∙ c.put_owned.ensures.count ∙ c.put_m2p.ensures.count ∙ c.put_vcpus.ensures.count ∙ c.put_domains.ensures.count ∙ clock;
      places = all_words c.args.trace.now _ _ _ _ _ _ _ cells (λ p. rw c.set.ensures (only_clock z c.put_cells.new.words c.args.trace.now.clock stand p)) c.put_domains.ensures.words c.put_vcpus.ensures.words c.put_m2p.ensures.words
          (rw c.as_slice-2.ensures at c.put_owned.ensures.words)
          c.put_map.ensures.words;
    }
