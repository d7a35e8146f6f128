-- The answer of a wait is determined, too.
use Rattle.std.proofs.Common.{◌≡◌, ◌≢◌, ◌⊎◌, ℕ, ◌+◌, ◌<◌, ◌≤◌, List, [], ◌∷◌, ◌++◌, length, Option, Some, None, Result, Ok, Err, append_assoc, refl, sym, ap, ◌∙◌, subst, inl, inr, arith}
use Rattle.xp_words.specs.declared.reply.Pause.TheVariants.{Flush}
use Rattle.xp_words.specs.declared.reply.Refusal.{Refusal}
use Rattle.xp_words.specs.declared.reply.Stop.{Stop}
use Rattle.xp_words.specs.declared.reply.Stop.TheVariants.{Refused, Paused}
use Rattle.xp_board.specs.Told.{Post}
use Rattle.step_maker.specs.Reasons.{Whose}
use Rattle.step_maker.specs.Visits.{Visit}
use Rattle.flush_waits.specs.Listing as waits
use Rattle.flush_waits.specs.Listing.{LooksAt, Slow, WaitedFor, WaitsInOrder}
use Rattle.determined_laws.proofs.Waits.{order_tie}
use Rattle.determined_laws.specs.Forks.{Forks, Tie, visit_by}
use Rattle.determined_laws.proofs.Ties.{tie_map, swapped, forks_newer, same_or}

below_or : (k u : ℕ) → k ≤ u + 1 → (k ≡ u + 1) ⊎ (k ≢ u + 1) → (k ≡ u + 1) ⊎ (k ≤ u)
below_or k u most (inl e) = inl e
below_or k u most (inr n) = inr (by (same_or k (u + 1)))
  where
    by : (k ≡ u + 1) ⊎ (k ≢ u + 1) → k ≤ u
    by (inl e) = absurd (n e)
    by (inr m) = grind (arith, most, m)

module _ (q : Post) (whose : Whose) (stamp : ℕ) where
  pub record Front (us : List Visit) (k : ℕ) : Type 0 where
    pub newer : List Visit
    pub older : List Visit
    pub first : Option Slow
    pub list : us ≡ newer ++ older
    pub waits : WaitsInOrder q whose stamp older k (Ok first)

  front_at : (u k : ℕ) (first : Option Slow) (standing : Option ℕ) (before now us : List Visit) → WaitsInOrder q whose stamp before u (Ok first) → LooksAt q whose stamp u now (Ok standing) → us ≡ now ++ before → (k ≤ u → Front before k) → (k ≡ u + 1) ⊎ (k ≤ u) → Front us k
  front_at u k first standing before now us w l g more (inl e) =
      record { newer = []; older = us; first = waits.first_slow first u standing; list = refl; waits = subst (λ z. WaitsInOrder q whose stamp us z (Ok (waits.first_slow first u standing))) (sym e) (waits.more u first standing before now us w l g) }
  front_at u k first standing before now us w l g more (inr low) =
      let f = more low in
      record { newer = now ++ f.newer; older = f.older; first = f.first; list = g ∙ (ap (λ z. now ++ z) f.list ∙ sym (append_assoc now f.newer f.older)); waits = f.waits }

  front_by : (us : List Visit) (m k : ℕ) (a : Result (Option Slow) Refusal) → WaitsInOrder q whose stamp us m a → (o : Option Slow) → a ≡ Ok o → k ≤ m → Front us k
  front_by _ _ k _ (waits.none us e) o is most =
      let zero_is : k ≡ 0 = omega (arith, most) in
      record { newer = []; older = us; first = None; list = refl; waits = subst (λ z. WaitsInOrder q whose stamp us z (Ok None)) (sym zero_is) (waits.none us e) }
  front_by _ _ k _ (waits.more u first standing before now us w l g) o is most =
      front_at u k first standing before now us w l g (λ low. front_by before u k (Ok first) w first refl low) (below_or k u most (same_or k (u + 1)))
  front_by _ _ k _ (waits.spent u first r before now us w l g) o is most = absurd cc

  front : (us : List Visit) (m k : ℕ) (o : Option Slow) → WaitsInOrder q whose stamp us m (Ok o) → k ≤ m → Front us k
  front us m k o w most = front_by us m k (Ok o) w o refl most

  own_only : (u : ℕ) (now : List Visit) (a : Result (Option ℕ) Refusal) (r : Refusal) → a ≡ Err r → LooksAt q whose stamp u now a → u ≡ q.vcpu
  own_only u now _ r e (waits.unmeant means is off nothing) = absurd cc
  own_only u now _ r e (waits.idle x meant off seen) = absurd cc
  own_only u now _ r e (waits.late y meant above t) = absurd cc
  own_only u now _ r e (waits.barred y meant low t) = absurd cc
  own_only u now _ r e (waits.behind y z meant low t) = absurd cc
  own_only u now _ r e (waits.own_late y meant above seen) = absurd cc
  own_only u now _ r e (waits.own_flushed y meant low t) = absurd cc
  own_only u now _ r e (waits.own_spent y s meant low t) = meant.0

  spent_at : (us : List Visit) (m : ℕ) (r : Refusal) → WaitsInOrder q whose stamp us m (Err r) → m ≡ q.vcpu + 1
  spent_at us m r w = by us m (Err r) w r refl
    where
      by : (us : List Visit) (m : ℕ) (a : Result (Option Slow) Refusal) → WaitsInOrder q whose stamp us m a → (r : Refusal) → a ≡ Err r → m ≡ q.vcpu + 1
      by _ _ _ (waits.none us e) r is = absurd cc
      by _ _ _ (waits.more u first standing before now us w l g) r is = absurd cc
      by _ _ _ (waits.spent u first s before now us w l g) r is = ap (λ z. z + 1) (own_only u now (Err s) s refl l)

  module _ (real : q.vcpu < length q.machine.vcpu_domain) where
    -- the one comes to its end, and the other finds the clock at its last value
    apart : (us vs : List Visit) (o : Option Slow) (m : ℕ) (r : Refusal) → WaitsInOrder q whose stamp us (length q.machine.vcpu_domain) (Ok o) → WaitsInOrder q whose stamp vs m (Err r) → Forks us vs
    apart us vs o m r w x =
        let visit_by = spent_at vs m r x in
        let f = front us (length q.machine.vcpu_domain) m o w (omega (arith, visit_by, real)) in
        subst (λ z. Forks z vs) (sym f.list) (by f (order_tie q whose stamp m m (Ok f.first) (Err r) f.older vs f.waits x refl))
      where
        by : (f : Front us m) → Tie f.older vs (◌≡◌ {A = Result (Option Slow) Refusal} (Ok f.first) (Err r)) → Forks (f.newer ++ f.older) vs
        by f (inl t) = forks_newer f.older vs f.newer [] t
        by f (inr s) = absurd (let t = s.1 in cc)

    pub waited_tie : (a b : Result (Unit {0}) Stop) (us vs : List Visit) → WaitedFor q whose stamp a us → WaitedFor q whose stamp b vs → Tie us vs (a ≡ b)
    waited_tie (Ok a) (Ok b) us vs p r = tie_map us vs _ _ (order_tie q whose stamp _ _ (Ok None) (Ok None) us vs p r refl) (λ e. refl)
    waited_tie (Ok a) (Err (Refused x)) us vs p r = inl (apart us vs None r.0 x p r.1)
    waited_tie (Ok a) (Err (Paused (Flush v s y))) us vs p r = tie_map us vs _ _ (order_tie q whose stamp _ _ (Ok None) (Ok (Some (record { vcpu = v; found = y }))) us vs p r.1 refl) (λ e. absurd cc)
    waited_tie (Err (Refused x)) (Ok b) us vs p r = inl (swapped vs us (apart vs us None p.0 x r p.1))
    waited_tie (Err (Refused x)) (Err (Refused y)) us vs p r =
        tie_map us vs _ _ (order_tie q whose stamp p.0 r.0 (Err x) (Err y) us vs p.1 r.1 (spent_at us p.0 x p.1 ∙ sym (spent_at vs r.0 y r.1))) (λ e. let t : x ≡ y = cc in ap (λ z. Err (Refused z)) t)
    waited_tie (Err (Refused x)) (Err (Paused (Flush v s y))) us vs p r = inl (swapped vs us (apart vs us (Some (record { vcpu = v; found = y })) p.0 x r.1 p.1))
    waited_tie (Err (Paused (Flush v s y))) (Ok b) us vs p r = tie_map us vs _ _ (order_tie q whose stamp _ _ (Ok (Some (record { vcpu = v; found = y }))) (Ok None) us vs p.1 r refl) (λ e. absurd cc)
    waited_tie (Err (Paused (Flush v s y))) (Err (Refused x)) us vs p r = inl (apart us vs (Some (record { vcpu = v; found = y })) r.0 x p.1 r.1)
    waited_tie (Err (Paused (Flush v s y))) (Err (Paused (Flush w t z))) us vs p r =
        tie_map us vs _ _ (order_tie q whose stamp _ _ (Ok (Some (record { vcpu = v; found = y }))) (Ok (Some (record { vcpu = w; found = z }))) us vs p.1 r.1 refl)
        (λ e. let one = slow_same v y w z e in rw (p.0, r.0, one.0, one.1) refl)
      where
        slow_same : (v y w z : ℕ) → ◌≡◌ {A = Result (Option Slow) Refusal} (Ok (Some (record { vcpu = v; found = y }))) (Ok (Some (record { vcpu = w; found = z }))) → (v ≡ w) × (y ≡ z)
        slow_same v y w z e = let t : ◌≡◌ {A = Slow} (record { vcpu = v; found = y }) (record { vcpu = w; found = z }) = cc in (ap (λ (k : Slow). k.vcpu) t, ap (λ (k : Slow). k.found) t)
    waited_tie (Ok a) (Err x) us vs p r = absurd r
    waited_tie (Err (Refused x)) (Err y) us vs p r = absurd r
    waited_tie (Err (Paused (Flush v s y))) (Err x) us vs p r = absurd r
    waited_tie (Err x) b us vs p r = absurd p
