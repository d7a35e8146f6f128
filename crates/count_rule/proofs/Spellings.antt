-- A spelling is below 2^64.
use Rattle.std.proofs.Common.{◌≡◌, ℕ, ◌^◌, ◌<◌, ◌≤◌, length, Option, Some, None, refl, arith, IsTrue, pow_mono}
use Rattle.std.proofs.lemmas.Bool.Decides.{nat_tests}
use Rattle.std.proofs.lemmas.List.Elements.{All-get_or}
use Rattle.xp_words.specs.declared.kind.KindWord.{KindWord}
use Rattle.xp_words.specs.declared.refs.RefWord.{RefWord}
use Rattle.xp_words.specs.KindWords.{kind_read}
use Rattle.xp_words.specs.RefWords.{ref_read}
use Rattle.xp_words.specs.Machine.{Machine, IsMachine}
use Rattle.xp_words.specs.declared.place.Place.{Place}
use Rattle.xp_words.specs.declared.place.Place.TheVariants.{Clock, Pages, Life, Vcpu, Refs, Kind, M2p, Cell, Map, Priv}
use Rattle.xp_words.specs.Places.{sizes_of, is_place}
use Rattle.xp_board.specs.Spelling.{IsSpelling, is_ref_in, is_kind_in, map_bits}
use Rattle.xp_board.proofs.RefWords.{read_small}

ref_in_small : (n : Machine) (w : ℕ) (r : Option RefWord) → ref_read w ≡ r → IsTrue (is_ref_in n r) → w < 2 ^ 64
ref_in_small n w (Some r) e k = read_small w r e
ref_in_small n w None e k = absurd cc

kind_small : (w : ℕ) (k : KindWord) → kind_read w ≡ Some k → w < 2 ^ 64
unfolding kind_read
kind_small w k e = grind (arith, nat_tests)

kind_in_small : (n : Machine) (w : ℕ) (r : Option KindWord) → kind_read w ≡ r → IsTrue (is_kind_in n r) → w < 2 ^ 64
kind_in_small n w (Some k) e f = kind_small w k e
kind_in_small n w None e f = absurd cc

few_bits : (frames k : ℕ) → map_bits frames k ≤ 64
few_bits frames k = grind (arith, nat_tests)

life_small : (n : Machine) (d w : ℕ) → IsSpelling n (Life d) w → w < 2 ^ 64
unfolding IsSpelling
life_small n d w e = grind (arith, nat_tests)

pages_inside : (n : Machine) (d : ℕ) → IsTrue (is_place (sizes_of n) (Pages d)) → d < length n.page_limit
unfolding is_place
pages_inside n d b = grind (arith, nat_tests)

pub spelling_small : (n : Machine) (p : Place) (w : ℕ) → IsMachine n → IsTrue (is_place (sizes_of n) p) → IsSpelling n p w → w < 2 ^ 64
unfolding IsSpelling
spelling_small n Clock w z b e = let k = e.1 in omega arith
spelling_small n (Pages d) w z b e =
    let inside : d < length n.page_limit = pages_inside n d b in
    let few = All-get_or (λ (n : ℕ). n ≤ 65536) n.page_limit d 0 inside z.few_pages in
    omega arith
spelling_small n (Life d) w z b e = life_small n d w e
spelling_small n (Vcpu v k) w z b e = e.0
spelling_small n (Refs f) w z b e = ref_in_small n w (ref_read w) refl e
spelling_small n (Kind f) w z b e = kind_in_small n w (kind_read w) refl e
spelling_small n (M2p f) w z b e = e
spelling_small n (Cell f i) w z b e = e
spelling_small n (Map k) w z b e = let few : 2 ^ map_bits n.frames k ≤ 2 ^ 64 = pow_mono (few_bits n.frames k) in omega arith
spelling_small n (Priv d) w z b e = let k = e.0 in omega arith
