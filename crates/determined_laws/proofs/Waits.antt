-- A wait for flushes is determined by the words that it finds.
use Rattle.std.proofs.Common.{◌≡◌, ◌≢◌, ◌⊎◌, ℕ, zero, suc, ◌+◌, ◌<◌, ◌≤◌, Bool, true, false, List, [], ◌∷◌, ◌++◌, length, Option, Some, None, Result, Ok, Err, IsTrue, append_assoc, refl, sym, ap, ◌∙◌, subst, inl, inr, arith}
use Rattle.xp_words.specs.Machine.{Machine}
use Rattle.xp_words.specs.Places.{asked_of, flushed_of, run_of}
use Rattle.xp_words.specs.declared.place.Place.TheVariants.{Clock, Priv}
use Rattle.xp_words.specs.declared.reply.Refusal.{Refusal}
use Rattle.xp_words.specs.declared.reply.Refusal.TheVariants as refusals
use Rattle.xp_board.specs.declared.step.Act.{Act}
use Rattle.xp_board.specs.declared.step.Act.TheVariants.{Cas, Load, Max, Store}
use Rattle.xp_board.specs.Acts.{left_by}
use Rattle.xp_board.specs.Readings.{domain_of, has_ever, last_clock}
use Rattle.xp_board.specs.Told.{Post}
use Rattle.step_maker.specs.Reasons.{IsMeant, OfOwner, Those, Whose}
use Rattle.step_maker.specs.Visits.{Visit, Only, Then, visit}
use Rattle.flush_words.specs.Flushing.{FlushedBy, none, once}
use Rattle.flush_waits.specs.Listing as waits
use Rattle.flush_waits.specs.Listing.{IsOtherMeant, IsOwnMeant, LooksAt, WaitsInOrder, WeighsBy, saw_flushed, saw_run}
use Rattle.determined_laws.specs.Forks.{Tie, visit_by}
use Rattle.determined_laws.proofs.Ties.{tie_map, fork_here, tie_one, tie_then}

-- ---- the own flush
abbrev FlushAnswer : Type 0
FlushAnswer = Result (Unit {0}) Refusal

store_tie : (s x y before after : ℕ) → x ≡ y → Tie (visit (flushed_of s) (Store x) before ∷ []) (visit (flushed_of s) (Store y) after ∷ []) (◌≡◌ {A = FlushAnswer} (Ok tt) (Ok tt))
store_tie s x y before after e = subst (λ z. Tie (visit (flushed_of s) (Store x) before ∷ []) (visit (flushed_of s) (Store z) after ∷ []) (◌≡◌ {A = FlushAnswer} (Ok tt) (Ok tt))) e (tie_map _ _ _ _ (tie_one _ (flushed_of s) (Store x) None before after) (λ q. refl))

tick_tie : (s c found to before found' to' before' : ℕ) → left_by (Cas c (c + 1)) found ≡ to → left_by (Cas c (c + 1)) found' ≡ to' →
    Tie (visit (flushed_of s) (Store to) before ∷ (visit Clock (Cas c (c + 1)) found ∷ [])) (visit (flushed_of s) (Store to') before' ∷ (visit Clock (Cas c (c + 1)) found' ∷ [])) (◌≡◌ {A = FlushAnswer} (Ok tt) (Ok tt))
tick_tie s c found to before found' to' before' left left' =
    tie_then (visit Clock (Cas c (c + 1)) found ∷ []) (visit Clock (Cas c (c + 1)) found' ∷ []) (visit (flushed_of s) (Store to) before ∷ []) (visit (flushed_of s) (Store to') before' ∷ []) (found ≡ found') _
    (tie_one _ Clock (Cas c (c + 1)) None found found') (λ e same. store_tie s to to' before before' (sym left ∙ (ap (λ z. left_by (Cas c (c + 1)) z) same ∙ left')))

pub flushed_tie : (s : ℕ) (a b : FlushAnswer) (us vs : List Visit) → FlushedBy s a us → FlushedBy s b vs → Tie us vs (a ≡ b)
flushed_tie s _ _ _ _ none none = inr (refl, refl)
flushed_tie s _ _ _ _ none (once c found to before some left) =
    inl (fork_here _ Clock Load None last_clock c [] (visit (flushed_of s) (Store to) before ∷ (visit Clock (Cas c (c + 1)) found ∷ [])) (λ e. some (sym e)))
flushed_tie s _ _ _ _ (once c found to before some left) none =
    inl (fork_here _ Clock Load None c last_clock (visit (flushed_of s) (Store to) before ∷ (visit Clock (Cas c (c + 1)) found ∷ [])) [] some)
flushed_tie s _ _ _ _ (once c found to before some left) (once c' found' to' before' some' left') =
    tie_then (visit Clock Load c ∷ []) (visit Clock Load c' ∷ []) (visit (flushed_of s) (Store to) before ∷ (visit Clock (Cas c (c + 1)) found ∷ []))
    (visit (flushed_of s) (Store to') before' ∷ (visit Clock (Cas c' (c' + 1)) found' ∷ [])) (c ≡ c') _ (tie_one _ Clock Load None c c')
    (λ e same. subst (λ d. left_by (Cas d (d + 1)) found' ≡ to' → Tie (visit (flushed_of s) (Store to) before ∷ (visit Clock (Cas c (c + 1)) found ∷ [])) (visit (flushed_of s) (Store to') before' ∷ (visit Clock (Cas d (d + 1)) found' ∷ [])) (◌≡◌ {A = FlushAnswer} (Ok tt) (Ok tt))) same
    (λ l. tick_tie s c found to before found' to' before' left l) left')

-- ---- one vCPU, by explicit lists
abbrev Standing : Type 0
Standing = Result (Option ℕ) Refusal

module _ (q : Post) (whose : Whose) (stamp u : ℕ) where
  data ReachRest (y : ℕ) : Bool → Standing → List Visit → Type 0 where
    barred : ReachRest y false (Ok None) []
    behind : (z : ℕ) → ReachRest y true (Ok (Some y)) (visit (asked_of u) (Max stamp) z ∷ [])

  data FlushedRest (y : ℕ) : Standing → List Visit → Type 0 where
    late : stamp < y → FlushedRest y (Ok None) []
    weighs : (reach : Bool) (a : Standing) (ws rest : List Visit) → y ≤ stamp → WeighsBy q.machine whose u reach ws → ReachRest y reach a rest → FlushedRest y a (rest ++ ws)

  data RunRest : ℕ → Standing → List Visit → Type 0 where
    idle : (x : ℕ) → x ≢ 0 → RunRest x (Ok None) []
    runs : (y : ℕ) (a : Standing) (rest : List Visit) → FlushedRest y a rest → RunRest 0 a (rest ++ (saw_flushed u y ∷ []))

  data OwnRest (y : ℕ) : Standing → List Visit → Type 0 where
    own_late : stamp < y → OwnRest y (Ok None) []
    own_flushed : (rest : List Visit) → y ≤ stamp → FlushedBy u (Ok tt) rest → OwnRest y (Ok None) rest
    own_spent : (r : Refusal) (rest : List Visit) → y ≤ stamp → FlushedBy u (Err r) rest → OwnRest y (Err r) rest

  data Looked : Standing → List Visit → Type 0 where
    skipped : (means : ℕ → Bool) → whose ≡ Those means → means u ≡ false → Looked (Ok None) []
    other : (x : ℕ) (a : Standing) (rest : List Visit) → IsOtherMeant q whose u → RunRest x a rest → Looked a (rest ++ (saw_run u x ∷ []))
    own : (y : ℕ) (a : Standing) (rest : List Visit) → IsOwnMeant q whose u → OwnRest y a rest → Looked a (rest ++ (saw_flushed u y ∷ []))

  then_is : (P Q : List Visit → Type 0) (vs : List Visit) (s : Visit) (t : Then (Only s) Q vs) → vs ≡ t.after ++ (s ∷ [])
  then_is P Q vs s t = t.list ∙ ap (λ z. t.after ++ z) t.first

  moved : (a : Standing) (us vs : List Visit) → us ≡ vs → Looked a vs → Looked a us
  moved a us vs e l = subst (λ z. Looked a z) (sym e) l

  looked : (a : Standing) (vs : List Visit) → LooksAt q whose stamp u vs a → Looked a vs
  looked _ vs (waits.unmeant means is off nothing) = moved _ vs [] nothing (skipped means is off)
  looked _ vs (waits.idle x meant off seen) = moved _ vs (saw_run u x ∷ []) seen (other x (Ok None) [] meant (idle x off))
  looked _ vs (waits.late y meant above t) =
      moved _ vs ((saw_flushed u y ∷ []) ++ (saw_run u 0 ∷ [])) (t.list ∙ (ap (λ z. t.after ++ z) t.first ∙ ap (λ z. z ++ (saw_run u 0 ∷ [])) t.next)) (other 0 (Ok None) (saw_flushed u y ∷ []) meant (runs y (Ok None) [] (late above)))
  looked _ vs (waits.barred y meant low t) =
      let n = t.next in
      moved _ vs ((n.after ++ (saw_flushed u y ∷ [])) ++ (saw_run u 0 ∷ [])) (t.list ∙ (ap (λ z. t.after ++ z) t.first ∙ ap (λ z. z ++ (saw_run u 0 ∷ [])) (n.list ∙ ap (λ z. n.after ++ z) n.first)))
      (other 0 (Ok None) (n.after ++ (saw_flushed u y ∷ [])) meant (runs y (Ok None) n.after (weighs false (Ok None) n.after [] low n.next barred)))
  looked _ vs (waits.behind y z meant low t) =
      let n = t.next in
      let k = n.next in
      moved _ vs ((((visit (asked_of u) (Max stamp) z ∷ []) ++ k.before) ++ (saw_flushed u y ∷ [])) ++ (saw_run u 0 ∷ []))
      (t.list ∙ (ap (λ g. t.after ++ g) t.first ∙ ap (λ g. g ++ (saw_run u 0 ∷ [])) (n.list ∙ (ap (λ g. n.after ++ g) n.first ∙ ap (λ g. g ++ (saw_flushed u y ∷ [])) (k.list ∙ ap (λ g. g ++ k.before) k.next)))))
      (other 0 (Ok (Some y)) (((visit (asked_of u) (Max stamp) z ∷ []) ++ k.before) ++ (saw_flushed u y ∷ [])) meant
      (runs y (Ok (Some y)) ((visit (asked_of u) (Max stamp) z ∷ []) ++ k.before) (weighs true (Ok (Some y)) k.before (visit (asked_of u) (Max stamp) z ∷ []) low k.first (behind z))))
  looked _ vs (waits.own_late y meant above seen) = moved _ vs (saw_flushed u y ∷ []) seen (own y (Ok None) [] meant (own_late above))
  looked _ vs (waits.own_flushed y meant low t) = moved _ vs (t.after ++ (saw_flushed u y ∷ [])) (t.list ∙ ap (λ z. t.after ++ z) t.first) (own y (Ok None) t.after meant (own_flushed t.after low t.next))
  looked _ vs (waits.own_spent y r meant low t) = moved _ vs (t.after ++ (saw_flushed u y ∷ [])) (t.list ∙ ap (λ z. t.after ++ z) t.first) (own y (Err r) t.after meant (own_spent r t.after low t.next))

  -- ---- ties
  reach_tie : (y : ℕ) (reach : Bool) (a b : Standing) (us vs : List Visit) → ReachRest y reach a us → ReachRest y reach b vs → Tie us vs (a ≡ b)
  reach_tie y _ _ _ _ _ barred barred = inr (refl, refl)
  reach_tie y _ _ _ _ _ (behind z) (behind x) = tie_map _ _ _ _ (tie_one _ (asked_of u) (Max stamp) None z x) (λ e. refl)

  own_tie : (y : ℕ) (a b : Standing) (us vs : List Visit) → OwnRest y a us → OwnRest y b vs → Tie us vs (a ≡ b)
  own_tie y _ _ _ _ (own_late h) (own_late k) = inr (refl, refl)
  own_tie y _ _ _ _ (own_late h) (own_flushed rest k f) = absurd (omega (arith, h, k))
  own_tie y _ _ _ _ (own_late h) (own_spent r rest k f) = absurd (omega (arith, h, k))
  own_tie y _ _ _ _ (own_flushed us h f) (own_late k) = absurd (omega (arith, h, k))
  own_tie y _ _ _ _ (own_flushed us h f) (own_flushed vs k g) = tie_map us vs _ _ (flushed_tie u (Ok tt) (Ok tt) us vs f g) (λ e. refl)
  own_tie y _ _ _ _ (own_flushed us h f) (own_spent r vs k g) = tie_map us vs _ _ (flushed_tie u (Ok tt) (Err r) us vs f g) (λ e. absurd cc)
  own_tie y _ _ _ _ (own_spent r us h f) (own_late k) = absurd (omega (arith, h, k))
  own_tie y _ _ _ _ (own_spent r us h f) (own_flushed vs k g) = tie_map us vs _ _ (flushed_tie u (Err r) (Ok tt) us vs f g) (λ e. absurd cc)
  own_tie y _ _ _ _ (own_spent r us h f) (own_spent s vs k g) = tie_map us vs _ _ (flushed_tie u (Err r) (Err s) us vs f g) (λ e. let same : r ≡ s = cc in ap (λ z. Err z) same)

weigh_tie : (n : Machine) (whose : Whose) (u : ℕ) (a b : Bool) (us vs : List Visit) → WeighsBy n whose u a us → WeighsBy n whose u b vs → Tie us vs (a ≡ b)
weigh_tie n (Those means) u a b us vs p r = inr (p.1 ∙ sym r.1, p.0 ∙ sym r.0)
weigh_tie n (OfOwner o) u a b us vs (inl p) (inl r) = inr (p.2 ∙ sym r.2, p.1 ∙ sym r.1)
weigh_tie n (OfOwner o) u a b us vs (inl p) (inr r) = absurd (r.0 p.0)
weigh_tie n (OfOwner o) u a b us vs (inr p) (inl r) = absurd (p.0 r.0)
weigh_tie n (OfOwner o) u a b us vs (inr p) (inr r) =
    let x = p.1 in
    let y = r.1 in
    subst (λ z. Tie z vs (a ≡ b)) (sym x.2) (subst (λ z. Tie (visit (Priv (domain_of n u)) Load x.0 ∷ []) z (a ≡ b)) (sym y.2)
    (tie_map _ _ _ _ (tie_one _ (Priv (domain_of n u)) Load None x.0 y.0) (λ e. sym x.1 ∙ (ap (has_ever o) e ∙ y.1))))

module _ (q : Post) (whose : Whose) (stamp u : ℕ) where
  flushed_rest_tie : (y : ℕ) (a b : Standing) (us vs : List Visit) → FlushedRest q whose stamp u y a us → FlushedRest q whose stamp u y b vs → Tie us vs (a ≡ b)
  flushed_rest_tie y _ _ _ _ (late h) (late k) = inr (refl, refl)
  flushed_rest_tie y _ _ _ _ (late h) (weighs reach b ws rest k w t) = absurd (omega (arith, h, k))
  flushed_rest_tie y _ _ _ _ (weighs reach a ws rest h w t) (late k) = absurd (omega (arith, h, k))
  flushed_rest_tie y _ _ _ _ (weighs reach a ws rest h w t) (weighs beyond b zs more k x s) =
      tie_then ws zs rest more (reach ≡ beyond) (a ≡ b) (weigh_tie q.machine whose u reach beyond ws zs w x)
      (λ e same. reach_tie q whose stamp u y beyond a b rest more (subst (λ z. ReachRest q whose stamp u y z a rest) same t) s)

  run_tie : (x : ℕ) (a b : Standing) (us vs : List Visit) → RunRest q whose stamp u x a us → RunRest q whose stamp u x b vs → Tie us vs (a ≡ b)
  run_tie _ _ _ _ _ (idle x off) (idle y k) = inr (refl, refl)
  run_tie _ _ _ _ _ (idle x off) (runs y b rest t) = absurd (off refl)
  run_tie _ _ _ _ _ (runs y a rest t) (idle x off) = absurd (off refl)
  run_tie _ _ _ _ _ (runs y a rest t) (runs z b more s) =
      tie_then (saw_flushed u y ∷ []) (saw_flushed u z ∷ []) rest more (y ≡ z) (a ≡ b) (tie_one _ (flushed_of u) Load None y z)
      (λ e same. flushed_rest_tie z a b rest more (subst (λ k. FlushedRest q whose stamp u k a rest) same t) s)

  unmeant_not : (means : ℕ → Bool) → whose ≡ Those means → means u ≡ false → IsMeant whose u → {A : Type 0} → A
  unmeant_not means is off meant = let there : IsTrue (means u) = subst (λ z. IsMeant z u) is meant in absurd (let t = sym there ∙ off in cc)

  looked_tie : (a b : Standing) (us vs : List Visit) → Looked q whose stamp u a us → Looked q whose stamp u b vs → Tie us vs (a ≡ b)
  looked_tie _ _ _ _ (skipped means is off) (skipped others visit_by nay) = inr (refl, refl)
  looked_tie _ _ _ _ (skipped means is off) (other x b rest meant t) = unmeant_not means is off meant.1
  looked_tie _ _ _ _ (skipped means is off) (own y b rest meant t) = unmeant_not means is off meant.1
  looked_tie _ _ _ _ (other x a rest meant t) (skipped means is off) = unmeant_not means is off meant.1
  looked_tie _ _ _ _ (other x a rest meant t) (other y b more also s) =
      tie_then (saw_run u x ∷ []) (saw_run u y ∷ []) rest more (x ≡ y) (a ≡ b) (tie_one _ (run_of u) Load None x y)
      (λ e same. run_tie y a b rest more (subst (λ k. RunRest q whose stamp u k a rest) same t) s)
  looked_tie _ _ _ _ (other x a rest meant t) (own y b more also s) = absurd (meant.0 also.0)
  looked_tie _ _ _ _ (own y a rest meant t) (skipped means is off) = unmeant_not means is off meant.1
  looked_tie _ _ _ _ (own y a rest meant t) (other x b more also s) = absurd (also.0 meant.0)
  looked_tie _ _ _ _ (own y a rest meant t) (own z b more also s) =
      tie_then (saw_flushed u y ∷ []) (saw_flushed u z ∷ []) rest more (y ≡ z) (a ≡ b) (tie_one _ (flushed_of u) Load None y z)
      (λ e same. own_tie q whose stamp u z a b rest more (subst (λ k. OwnRest q whose stamp u k a rest) same t) s)

  pub looks_tie : (a b : Standing) (us vs : List Visit) → LooksAt q whose stamp u us a → LooksAt q whose stamp u vs b → Tie us vs (a ≡ b)
  looks_tie a b us vs f g = looked_tie a b us vs (looked q whose stamp u a us f) (looked q whose stamp u b vs g)

-- ---- all of them, in order: as many vCPUs, each by its look
ok_same : {A : Type 0} (a b : A) → ◌≡◌ {A = Result A Refusal} (Ok a) (Ok b) → a ≡ b
ok_same a b e = cc

err_ok : {A B : Type 0} (r : Refusal) (a : A) → ◌≡◌ {A = Result A Refusal} (Err r) (Ok a) → B
err_ok r a e = absurd cc

pub up_same : (u w : ℕ) → u + 1 ≡ w + 1 → u ≡ w
up_same u w e = omega (arith, e)

module _ (q : Post) (whose : Whose) (stamp : ℕ) where
  -- the newer of the two parts in hand
  behind_eq : (a b us vs : List Visit) (E : Type 0) (P Q : List Visit) → us ≡ P → vs ≡ Q → Tie P Q E → Tie us vs E
  behind_eq a b us vs E P Q e f t = subst (λ z. Tie z vs E) (sym e) (subst (λ z. Tie P z E) (sym f) t)

  pub order_tie : (k m : ℕ) (a b : Result (Option waits.Slow) Refusal) (us vs : List Visit) → WaitsInOrder q whose stamp us k a → WaitsInOrder q whose stamp vs m b → k ≡ m → Tie us vs (a ≡ b)
  order_tie _ _ _ _ _ _ (waits.none us e) (waits.none vs f) same = inr (e ∙ sym f, refl)
  order_tie _ _ _ _ _ _ (waits.none us e) (waits.more u first standing before now vs w l g) same = absurd (omega (arith, same))
  order_tie _ _ _ _ _ _ (waits.none us e) (waits.spent u first r before now vs w l g) same = absurd (omega (arith, same))
  order_tie _ _ _ _ _ _ (waits.more u first standing before now us w l g) (waits.none vs f) same = absurd (omega (arith, same))
  order_tie _ _ _ _ _ _ (waits.more u first standing before now us w l g) (waits.more u' first' standing' before' now' vs w' l' g') same =
      let visit_by = up_same u u' same in
      behind_eq [] [] us vs _ (now ++ before) (now' ++ before') g g'
      (tie_then before before' now now' (◌≡◌ {A = Result (Option waits.Slow) Refusal} (Ok first) (Ok first')) _ (order_tie u u' (Ok first) (Ok first') before before' w w' visit_by)
      (λ e f. tie_map now now' _ _ (looks_tie q whose stamp u' (Ok standing) (Ok standing') now now' (subst (λ z. LooksAt q whose stamp z now (Ok standing)) visit_by l) l')
      (λ s. ap (λ z. Ok z) (ap (λ z. waits.first_slow z u standing) (ok_same first first' f) ∙ (ap (λ z. waits.first_slow first' z standing) visit_by ∙ ap (λ z. waits.first_slow first' u' z) (ok_same standing standing' s))))))
  order_tie _ _ _ _ _ _ (waits.more u first standing before now us w l g) (waits.spent u' first' r before' now' vs w' l' g') same =
      let visit_by = up_same u u' same in
      behind_eq [] [] us vs _ (now ++ before) (now' ++ before') g g'
      (tie_then before before' now now' (◌≡◌ {A = Result (Option waits.Slow) Refusal} (Ok first) (Ok first')) _ (order_tie u u' (Ok first) (Ok first') before before' w w' visit_by)
      (λ e f. tie_map now now' _ _ (looks_tie q whose stamp u' (Ok standing) (Err r) now now' (subst (λ z. LooksAt q whose stamp z now (Ok standing)) visit_by l) l') (λ s. err_ok r standing (sym s))))
  order_tie _ _ _ _ _ _ (waits.spent u first r before now us w l g) (waits.none vs f) same = absurd (omega (arith, same))
  order_tie _ _ _ _ _ _ (waits.spent u first r before now us w l g) (waits.more u' first' standing' before' now' vs w' l' g') same =
      let visit_by = up_same u u' same in
      behind_eq [] [] us vs _ (now ++ before) (now' ++ before') g g'
      (tie_then before before' now now' (◌≡◌ {A = Result (Option waits.Slow) Refusal} (Ok first) (Ok first')) _ (order_tie u u' (Ok first) (Ok first') before before' w w' visit_by)
      (λ e f. tie_map now now' _ _ (looks_tie q whose stamp u' (Err r) (Ok standing') now now' (subst (λ z. LooksAt q whose stamp z now (Err r)) visit_by l) l') (λ s. err_ok r standing' s)))
  order_tie _ _ _ _ _ _ (waits.spent u first r before now us w l g) (waits.spent u' first' r' before' now' vs w' l' g') same =
      let visit_by = up_same u u' same in
      behind_eq [] [] us vs _ (now ++ before) (now' ++ before') g g'
      (tie_then before before' now now' (◌≡◌ {A = Result (Option waits.Slow) Refusal} (Ok first) (Ok first')) _ (order_tie u u' (Ok first) (Ok first') before before' w w' visit_by)
      (λ e f. tie_map now now' _ _ (looks_tie q whose stamp u' (Err r) (Err r') now now' (subst (λ z. LooksAt q whose stamp z now (Err r)) visit_by l) l') (λ s. let t : r ≡ r' = cc in ap (λ z. Err z) t)))
