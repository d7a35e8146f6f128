-- Turns and stops of vCPUs, one behind the other.
use Rattle.std.proofs.Common.{◌≡◌, ℕ, zero, suc, ◌+◌, ◌<◌, List, [], ◌∷◌, ◌++◌, length, take, refl, sym, ap, ◌∙◌, subst, append-nil, append_assoc, add-one, slice_index_or, arith}
use Rattle.std.specs.Prelude.{replicate}
use Rattle.std.specs.List.{flat_map, range_with_len}
use Rattle.std.proofs.Math.Seq.{take-suc}
use Rattle.std.proofs.lemmas.List.{replicate-append-replicate}
use Rattle.std.proofs.lemmas.Grind.{flat_map-append}
use Rattle.std.proofs.lemmas.List.Concat.{flat_map-cons}
use Rattle.trace_text.specs.declared.trace.TurnRun.{TurnRun}
use Rattle.xp_words.specs.Machine.{Machine}
use Rattle.xp_machine.specs.Cpus.{turns_in, order}
use Rattle.xp_machine.specs.Turns.{Stage, IsStagedTurn, IsStagedStop, InOrder, none, more, Turns, Stops}

-- ---- in any order
module _ (DoesNext : ℕ → Stage → Stage → Type 0) where
  -- what each does
  pub joined : (vs ws : List ℕ) (s m s' : Stage) → InOrder DoesNext vs s m → InOrder DoesNext ws m s' → InOrder DoesNext (vs ++ ws) s s'
  joined vs _ s m _ t (none _) = subst (λ us. InOrder DoesNext us s m) (sym (append-nil vs)) t
  joined vs _ s m _ t (more ws w _ k s' u w') =
      subst (λ us. InOrder DoesNext us s s') (append_assoc vs ws (w ∷ [])) (more (vs ++ ws) w s k s' (joined vs ws s m k t u) w')

-- ---- one more
-- a turn of the same vCPU; the machine is the same one
pub one_more_turn : (n n2 : Machine) (k v : ℕ) (s m s' : Stage) → n2 ≡ n → Turns n (replicate k v) s m → IsStagedTurn n2 v m s' → Turns n (replicate (k + 1) v) s s'
one_more_turn n n2 k v s m s' same t u =
    subst (λ vs. Turns n vs s s') (replicate-append-replicate k 1 v) (more (replicate k v) v s m s' t (subst (λ x. IsStagedTurn x v m s') same u))

order_more : (runs : List TurnRun) (i : ℕ) (d : TurnRun) → i < length runs →
    order (take (suc i) runs) ≡ order (take i runs) ++ replicate (slice_index_or runs i d).count (slice_index_or runs i d).vcpu
unfolding order
order_more runs i d h =
    ap (flat_map turns_in) (take-suc runs i d h) ∙ flat_map-append turns_in (take i runs) (slice_index_or runs i d ∷ [])
    ∙ ap (λ (us : List ℕ). flat_map turns_in (take i runs) ++ us) (flat_map-cons turns_in (slice_index_or runs i d) [] ∙ append-nil (turns_in (slice_index_or runs i d)))

order_none : order [] ≡ []
unfolding order
order_none = refl

-- the turns of a line
pub more_runs : (n n2 : Machine) (runs : List TurnRun) (i : ℕ) (d : TurnRun) (s m s' : Stage) → n2 ≡ n → i < length runs → Turns n (order (take i runs)) s m →
    Turns n2 (turns_in (slice_index_or runs i d)) m s' → Turns n (order (take (i + 1) runs)) s s'
more_runs n n2 runs i d s m s' same h t u =
    let vs = turns_in (slice_index_or runs i d) in
    rw add-one
    (subst (λ us. Turns n us s s') (sym (order_more runs i d h)) (joined (IsStagedTurn n) (order (take i runs)) vs s m s' t (subst (λ x. Turns x vs m s') same u)))

pub no_runs : (n : Machine) (s : Stage) → Turns n (order []) s s
no_runs n s = subst (λ vs. Turns n vs s s) (sym order_none) (none s)

range_more : (a k : ℕ) → range_with_len a (suc k) ≡ range_with_len a k ++ (a + k) ∷ []
range_more a zero = ap (λ x. x ∷ []) (omega arith)
range_more a (suc k) = ap (λ (xs : List ℕ). a ∷ xs) (range_more (a + 1) k ∙ ap (λ x. range_with_len (a + 1) k ++ x ∷ []) (omega arith))

-- a stop of the next vCPU
pub one_more_stop : (n n2 : Machine) (k : ℕ) (s m s' : Stage) → n2 ≡ n → Stops n (range_with_len 0 k) s m → IsStagedStop n2 k m s' → Stops n (range_with_len 0 (k + 1)) s s'
one_more_stop n n2 k s m s' same t u =
    rw add-one (subst (λ vs. Stops n vs s s') (sym (range_more 0 k ∙ ap (λ x. range_with_len 0 k ++ x ∷ []) (omega arith))) (more (range_with_len 0 k) k s m s' t (subst (λ x. IsStagedStop x k m s') same u)))
