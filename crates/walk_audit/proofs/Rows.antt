-- Which places stand in a row of the image: the words of a vCPU, of a frame, of a domain.
use Rattle.std.proofs.Common.{◌≡◌, ℕ, ◌+◌, ◌*◌, ◌<◌, ◌≤◌, IsTrue, refl, subst, arith}
use Rattle.std.proofs.lemmas.Bool.Decides.{nat_tests}
use Rattle.xp_words.specs.declared.place.Place.{Place}
use Rattle.xp_words.specs.declared.place.Place.TheVariants.{Clock, Pages, Life, Vcpu, Refs, Kind, M2p, Cell, Map, Priv}
use Rattle.xp_words.specs.Places.{Sizes, is_place, number, map_words, first_vcpu, first_frame, first_map, first_priv}

pub in_vcpu : (z : Sizes) (v : ℕ) (q : Place) (P : Place → Type 0) → v < z.vcpus → IsTrue (is_place z q) →
    first_vcpu z + 38 * v ≤ number z q → number z q < first_vcpu z + 38 * v + 38 → ((k : ℕ) → k < 38 → P (Vcpu v k)) → P q
unfolding number is_place
in_vcpu z v Clock P r h l u g = absurd (omega arith)
in_vcpu z v (Pages d) P r h l u g = absurd (grind (arith, nat_tests))
in_vcpu z v (Life d) P r h l u g = absurd (grind (arith, nat_tests))
in_vcpu z v (Vcpu w k) P r h l u g =
    let few : k < 38 = grind (arith, nat_tests) in
    let same : v ≡ w = omega arith in
    subst (λ x. P (Vcpu x k)) same (g k few)
in_vcpu z v (Refs f) P r h l u g = absurd (grind (arith, nat_tests))
in_vcpu z v (Kind f) P r h l u g = absurd (grind (arith, nat_tests))
in_vcpu z v (M2p f) P r h l u g = absurd (grind (arith, nat_tests))
in_vcpu z v (Cell f i) P r h l u g = absurd (grind (arith, nat_tests))
in_vcpu z v (Map k) P r h l u g = absurd (grind (arith, nat_tests))
in_vcpu z v (Priv d) P r h l u g = absurd (grind (arith, nat_tests))

pub in_frame : (z : Sizes) (f : ℕ) (q : Place) (P : Place → Type 0) → f < z.frames → IsTrue (is_place z q) →
    first_frame z + 515 * f ≤ number z q → number z q < first_frame z + 515 * f + 515 →
    P (Refs f) → P (Kind f) → P (M2p f) → ((i : ℕ) → i < 512 → P (Cell f i)) → P q
unfolding number is_place
in_frame z f Clock P r h l u a b c d = absurd (omega arith)
in_frame z f (Pages e) P r h l u a b c d = absurd (grind (arith, nat_tests))
in_frame z f (Life e) P r h l u a b c d = absurd (grind (arith, nat_tests))
in_frame z f (Vcpu w k) P r h l u a b c d = absurd (grind (arith, nat_tests))
in_frame z f (Refs g) P r h l u a b c d = let same : f ≡ g = omega arith in subst (λ x. P (Refs x)) same a
in_frame z f (Kind g) P r h l u a b c d = let same : f ≡ g = omega arith in subst (λ x. P (Kind x)) same b
in_frame z f (M2p g) P r h l u a b c d = let same : f ≡ g = omega arith in subst (λ x. P (M2p x)) same c
in_frame z f (Cell g i) P r h l u a b c d =
    let few : i < 512 = grind (arith, nat_tests) in
    let same : f ≡ g = omega arith in
    subst (λ x. P (Cell x i)) same (d i few)
in_frame z f (Map k) P r h l u a b c d = absurd (grind (arith, nat_tests))
in_frame z f (Priv e) P r h l u a b c d = absurd (grind (arith, nat_tests))

pub in_domain : (z : Sizes) (d : ℕ) (q : Place) (P : Place → Type 0) → d < z.domains → IsTrue (is_place z q) →
    1 + 2 * d ≤ number z q → number z q < 1 + 2 * d + 2 → P (Pages d) → P (Life d) → P q
unfolding number is_place
in_domain z d Clock P r h l u a b = absurd (omega arith)
in_domain z d (Pages e) P r h l u a b = let same : d ≡ e = omega arith in subst (λ x. P (Pages x)) same a
in_domain z d (Life e) P r h l u a b = let same : d ≡ e = omega arith in subst (λ x. P (Life x)) same b
in_domain z d (Vcpu w k) P r h l u a b = absurd (grind (arith, nat_tests))
in_domain z d (Refs f) P r h l u a b = absurd (grind (arith, nat_tests))
in_domain z d (Kind f) P r h l u a b = absurd (grind (arith, nat_tests))
in_domain z d (M2p f) P r h l u a b = absurd (grind (arith, nat_tests))
in_domain z d (Cell f i) P r h l u a b = absurd (grind (arith, nat_tests))
in_domain z d (Map k) P r h l u a b = absurd (grind (arith, nat_tests))
in_domain z d (Priv e) P r h l u a b = absurd (grind (arith, nat_tests))

-- those before the words of vCPUs, and those behind the words of frames
pub in_head : (z : Sizes) (q : Place) (P : Place → Type 0) → IsTrue (is_place z q) → number z q < first_vcpu z →
    P Clock → ((d : ℕ) → P (Pages d)) → ((d : ℕ) → P (Life d)) → P q
unfolding number is_place
in_head z Clock P h u a b c = a
in_head z (Pages d) P h u a b c = b d
in_head z (Life d) P h u a b c = c d
in_head z (Vcpu w k) P h u a b c = absurd (grind (arith, nat_tests))
in_head z (Refs f) P h u a b c = absurd (grind (arith, nat_tests))
in_head z (Kind f) P h u a b c = absurd (grind (arith, nat_tests))
in_head z (M2p f) P h u a b c = absurd (grind (arith, nat_tests))
in_head z (Cell f i) P h u a b c = absurd (grind (arith, nat_tests))
in_head z (Map k) P h u a b c = absurd (grind (arith, nat_tests))
in_head z (Priv d) P h u a b c = absurd (grind (arith, nat_tests))

pub in_tail : (z : Sizes) (q : Place) (P : Place → Type 0) → IsTrue (is_place z q) → first_map z ≤ number z q →
    ((k : ℕ) → k < map_words z → first_map z + k ≡ number z (Map k) → P (Map k)) → ((d : ℕ) → d < z.domains → first_priv z + d ≡ number z (Priv d) → P (Priv d)) → P q
unfolding number is_place
in_tail z Clock P h l a b = absurd (omega arith)
in_tail z (Pages d) P h l a b = absurd (grind (arith, nat_tests))
in_tail z (Life d) P h l a b = absurd (grind (arith, nat_tests))
in_tail z (Vcpu w k) P h l a b = absurd (grind (arith, nat_tests))
in_tail z (Refs f) P h l a b = absurd (grind (arith, nat_tests))
in_tail z (Kind f) P h l a b = absurd (grind (arith, nat_tests))
in_tail z (M2p f) P h l a b = absurd (grind (arith, nat_tests))
in_tail z (Cell f i) P h l a b = absurd (grind (arith, nat_tests))
in_tail z (Map k) P h l a b = a k (grind (arith, nat_tests)) refl
in_tail z (Priv d) P h l a b = b d (grind (arith, nat_tests)) refl
