-- Rounds of turns, whatever a turn is, by a number that none of them raises.
use Rattle.std.proofs.Common.{◌≡◌, ◌≢◌, ℕ, zero, suc, ◌+◌, ◌*◌, ◌<◌, ◌≤◌, ◌⊎◌, inl, inr, All, Any, List, [], ◌∷◌, length, sym, ◌∙◌, subst, arith}
use Rattle.std.specs.List.{flat_map}
use Rattle.std.specs.Prelude.{slice_index_or}
use Rattle.std.proofs.lemmas.List.Concat.{flat_map-cons}
use Rattle.std.proofs.lemmas.List.Elements.{All-head, All-tail}
use Rattle.round_laws.proofs.Splitting.{OneByOne, split}

-- one of them is u
abbrev Has : ℕ → List ℕ → Type 0
Has u [] = ⊥
Has u (v ∷ vs) = (v ≡ u) ⊎ Has u vs

has_at : (u : ℕ) (vs : List ℕ) (k x : ℕ) → k < length vs → slice_index_or vs k x ≡ x → x ≡ u → Has u vs
has_at u [] k x within at same = absurd (omega arith)
has_at u (v ∷ vs) zero x within at same = inl (at ∙ same)
has_at u (v ∷ vs) (suc k) x within at same = inr (has_at u vs k x (omega arith) at same)

has : (u : ℕ) (vs : List ℕ) → Any (λ v. v ≡ u) vs → Has u vs
has u vs any = has_at u vs any.0 any.1 any.2 any.3 any.4

-- What turns are: `Works t s`: vCPU t makes turns at s; `Waits u s`: vCPU u makes turns at s, and its next one brings the clock on.
pub record Turning (S : Type 0) (Does : ℕ → S → S → Type 0) (vcpus : ℕ) : Type 1 where
  pub IsRight : S → Type 0
  pub Works : ℕ → S → Type 0
  pub Waits : ℕ → S → Type 0
  pub AllRest : S → Type 0
  pub left : S → ℕ
  pub clock : S → ℕ
  pub last : ℕ
  pub stays_right : (v : ℕ) (s s' : S) → IsRight s → Does v s s' → IsRight s'
  pub no_more : (v : ℕ) (s s' : S) → IsRight s → Does v s s' → left s' ≤ left s
  pub goes_on : (v : ℕ) (s s' : S) → IsRight s → Does v s s' → clock s ≤ clock s'
  pub turn : (v : ℕ) (s s' : S) → IsRight s → Does v s s' → ((s' ≡ s) × (Works v s → ⊥)) ⊎ ((left s' < left s) ⊎ ((u : ℕ) × (u < vcpus) × Waits u s'))
  pub wait : (u v : ℕ) (s s' : S) → IsRight s → clock s' < last → Waits u s → Does v s s' → ((v ≢ u) × Waits u s') ⊎ (left s' < left s)
  pub all_or_one : (s : S) → IsRight s → AllRest s ⊎ ((t : ℕ) × (t < vcpus) × Works t s)
  pub rest : (v : ℕ) (s s' : S) → AllRest s → Does v s s' → s' ≡ s

module _ {S : Type 0} (Does : ℕ → S → S → Type 0) (vcpus : ℕ) (turns : Turning S Does vcpus) where
  abbrev Goes : List ℕ → S → S → Type 0
  Goes vs s s' = OneByOne S Does vs s s'

  right : (vs : List ℕ) (s s' : S) → turns.IsRight s → Goes vs s s' → turns.IsRight s'
  right [] s s' is same = subst turns.IsRight (sym same) is
  right (v ∷ vs) s s' is goes = right vs goes.0 s' (turns.stays_right v s goes.0 is goes.1) goes.2

  no_more_all : (vs : List ℕ) (s s' : S) → turns.IsRight s → Goes vs s s' → turns.left s' ≤ turns.left s
  no_more_all [] s s' is same = rw same (omega arith)
  no_more_all (v ∷ vs) s s' is goes =
      let here = turns.no_more v s goes.0 is goes.1 in
      let later = no_more_all vs goes.0 s' (turns.stays_right v s goes.0 is goes.1) goes.2 in
      omega arith

  goes_on_all : (vs : List ℕ) (s s' : S) → turns.IsRight s → Goes vs s s' → turns.clock s ≤ turns.clock s'
  goes_on_all [] s s' is same = rw same (omega arith)
  goes_on_all (v ∷ vs) s s' is goes =
      let here = turns.goes_on v s goes.0 is goes.1 in
      let later = goes_on_all vs goes.0 s' (turns.stays_right v s goes.0 is goes.1) goes.2 in
      omega arith

  rest_all : (vs : List ℕ) (s s' : S) → turns.AllRest s → Goes vs s s' → s' ≡ s
  rest_all [] s s' all same = same
  rest_all (v ∷ vs) s s' all goes =
      let here = turns.rest v s goes.0 all goes.1 in
      rest_all vs goes.0 s' (subst turns.AllRest (sym here) all) goes.2 ∙ here

  -- one that is waited for has a turn
  waited : (u : ℕ) (vs : List ℕ) (s s' : S) → turns.IsRight s → turns.clock s' < turns.last → turns.Waits u s → Has u vs → Goes vs s s' → turns.left s' < turns.left s
  waited u [] s s' is low waits there goes = absurd there
  waited u (v ∷ vs) s s' is low waits there goes =
      let m = goes.0 in
      let next = turns.stays_right v s m is goes.1 in
      let on = goes_on_all vs m s' next goes.2 in
      let here = turns.no_more v s m is goes.1 in
      let later = no_more_all vs m s' next goes.2 in
      elim (turns.wait u v s m is (omega arith) waits goes.1) [
        | inl still ↦
            (elim there [
              | inl same ↦ absurd (still.0 same)
              | inr far ↦ (let falls = waited u vs m s' next low still.1 far goes.2 in omega arith)
            ])
        | inr falls ↦ omega arith
      ]

  -- one that makes turns has one in the first round, and whoever is waited for one in the second
  two : (t : ℕ) (vs ws : List ℕ) (s m s' : S) → turns.IsRight s → turns.clock s' < turns.last → turns.Works t s → Has t vs → ((u : ℕ) → u < vcpus → Has u ws) →
      Goes vs s m → Goes ws m s' → turns.left s' < turns.left s
  two t [] ws s m s' is low works there all first second = absurd there
  two t (v ∷ vs) ws s m s' is low works there all first second =
      let k = first.0 in
      let next = turns.stays_right v s k is first.1 in
      let behind = right vs k m next first.2 in
      let here = turns.no_more v s k is first.1 in
      let later = no_more_all vs k m next first.2 in
      let last = no_more_all ws m s' behind second in
      elim (turns.turn v s k is first.1) [
        | inl rests ↦
            (elim there [
              | inl same ↦ absurd (rests.1 (subst (λ x. turns.Works x s) (sym same) works))
              | inr far ↦ two t vs ws s m s' is low works far all (subst (λ x. Goes vs x m) rests.0 first.2) second
            ])
        | inr made ↦
            (elim made [
              | inl falls ↦ omega arith
              | inr waits ↦ (let falls = waited_on waits.0 vs ws k m s' next low waits.2 (all waits.0 waits.1) first.2 second in omega arith)
            ])
      ]
    where
      waited_on : (u : ℕ) (vs ws : List ℕ) (k m s' : S) → turns.IsRight k → turns.clock s' < turns.last → turns.Waits u k → Has u ws → Goes vs k m → Goes ws m s' → turns.left s' < turns.left k
      waited_on u [] ws k m s' is low waits there first second = waited u ws k s' is low waits there (subst (λ x. Goes ws x s') first second)
      waited_on u (v ∷ vs) ws k m s' is low waits there first second =
          let next = turns.stays_right v k first.0 is first.1 in
          let behind = right vs first.0 m next first.2 in
          let on = goes_on_all vs first.0 m next first.2 in
          let far = goes_on_all ws m s' behind second in
          let here = turns.no_more v k first.0 is first.1 in
          let later = no_more_all vs first.0 m next first.2 in
          let last = no_more_all ws m s' behind second in
          elim (turns.wait u v k first.0 is (omega arith) waits first.1) [
            | inl still ↦ (let falls = waited_on u vs ws first.0 m s' next low still.1 there first.2 second in omega arith)
            | inr falls ↦ omega arith
          ]

  abbrev IsRound : List ℕ → Type 0
  IsRound vs = (t : ℕ) → t < vcpus → Any (λ v. v ≡ t) vs

  -- two rounds at a time
  rounds_fall : (k : ℕ) (rounds : List (List ℕ)) (s s' : S) → turns.IsRight s → turns.clock s' < turns.last → 2 * k ≤ length rounds → All IsRound rounds → Goes (flat_map (λ vs. vs) rounds) s s' →
      turns.AllRest s' ⊎ (turns.left s' + k ≤ turns.left s)
  rounds_fall zero rounds s s' is low enough all goes = inr (let k = no_more_all (flat_map (λ vs. vs) rounds) s s' is goes in omega arith)
  rounds_fall (suc k) [] s s' is low enough all goes = absurd (omega arith)
  rounds_fall (suc k) (vs ∷ []) s s' is low enough all goes = absurd (omega arith)
  rounds_fall (suc k) (vs ∷ ws ∷ rounds) s s' is low enough all goes =
      let parts = split S Does vs (flat_map (λ xs. xs) (ws ∷ rounds)) s s' (subst (λ us. Goes us s s') (flat_map-cons (λ xs. xs) vs (ws ∷ rounds)) goes) in
      let more = split S Does ws (flat_map (λ xs. xs) rounds) parts.0 s' (subst (λ us. Goes us parts.0 s') (flat_map-cons (λ xs. xs) ws rounds) parts.2) in
      let middle = right vs s parts.0 is parts.1 in
      let behind = right ws parts.0 more.0 middle more.1 in
      let on = goes_on_all (flat_map (λ xs. xs) rounds) more.0 s' behind more.2 in
      elim (turns.all_or_one s is) [
        | inl rest ↦ inl (subst turns.AllRest (sym (rest_all (flat_map (λ xs. xs) (vs ∷ ws ∷ rounds)) s s' rest goes)) rest)
        | inr one ↦
            (let falls = two one.0 vs ws s parts.0 more.0 is (omega arith) one.2 (has one.0 vs (All-head IsRound vs (ws ∷ rounds) all one.0 one.1)) (λ u real. has u ws (All-head IsRound ws rounds (All-tail IsRound vs (ws ∷ rounds) all) u real)) parts.1 more.1 in
            elim (rounds_fall k rounds more.0 s' behind low (omega arith) (All-tail IsRound ws rounds (All-tail IsRound vs (ws ∷ rounds) all)) more.2) [
              | inl rest ↦ inl rest
              | inr less ↦ inr (omega arith)
            ])
      ]

  pub all_rest : (rounds : List (List ℕ)) (s s' : S) → turns.IsRight s → turns.clock s' < turns.last → 2 * turns.left s + 2 ≤ length rounds → All IsRound rounds → Goes (flat_map (λ vs. vs) rounds) s s' → turns.AllRest s'
  all_rest rounds s s' is low enough all goes =
      elim (rounds_fall (turns.left s + 1) rounds s s' is low (omega arith) all goes) [
        | inl rest ↦ rest
        | inr less ↦ absurd (omega arith)
      ]
