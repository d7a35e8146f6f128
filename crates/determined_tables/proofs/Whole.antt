-- Whole frames that are cleared and copied are determined.
use Rattle.std.proofs.Common.{◌≡◌, ℕ, ◌+◌, List, [], ◌∷◌, length, Option, Some, None, Result, Ok, Err, refl, sym, ap, ◌∙◌, subst, inr, arith}
use Rattle.xp_words.specs.declared.kind.PageType.TheVariants.{Writable}
use Rattle.xp_words.specs.declared.place.Place.TheVariants.{Cell}
use Rattle.xp_words.specs.declared.reply.Stop.{Stop}
use Rattle.xp_board.specs.declared.step.Act.TheVariants.{Load, Store}
use Rattle.xp_board.specs.Told.{PortValue}
use Rattle.step_maker.specs.Moves.{Came}
use Rattle.step_maker.specs.Visits.{Does, Visit, visit}
use Rattle.step_maker.proofs.Visiting.{does_came}
use Rattle.table_entries.specs.Acquiring.{GaveRef, GaveType, GotRef}
use Rattle.writable_pages.specs.Pages.{GotPage}
use Rattle.whole_pages.specs.Whole as whole
use Rattle.whole_pages.specs.Whole.{ClearedBy, ClearsPage, CopiedBy, CopiesPage}
use Rattle.determined_laws.specs.Courses.{Alike}
use Rattle.determined_laws.specs.Forks.{Tie}
use Rattle.determined_laws.proofs.Courses.{alike_does, alike_map}
use Rattle.determined_laws.proofs.Ties.{tie_map, tie_one, tie_then}
use Rattle.determined_laws.proofs.Waits.{up_same}
use Rattle.determined_tables.proofs.Chains.{Chain, Ends, IsFixed, IsSure, fixed_by, fixed_ends, fixed_sure, fixed_then, sure_does, sure_two}
use Rattle.determined_tables.proofs.Leaves.{gave_sure, gave_type_sure, got_fixed, ref_answer}
use Rattle.determined_tables.proofs.Pages.{got_page_fixed}

-- ---- the lists of their steps
cleared_tie : (f i j : ℕ) (us vs : List Visit) → ClearedBy f i us → ClearedBy f j vs → i ≡ j → Tie us vs (Unit {0})
cleared_tie f _ _ _ _ whole.none whole.none e = inr (refl, tt)
cleared_tie f _ _ _ _ whole.none (whole.more j old vs q) e = absurd (omega (arith, e))
cleared_tie f _ _ _ _ (whole.more i old us p) whole.none e = absurd (omega (arith, e))
cleared_tie f _ _ _ _ (whole.more i old us p) (whole.more j other vs q) e =
    tie_then us vs (visit (Cell f i) (Store 0) old ∷ []) (visit (Cell f j) (Store 0) other ∷ []) (Unit {0}) (Unit {0}) (cleared_tie f i j us vs p q (up_same i j e))
    (λ s t. subst (λ z. Tie (visit (Cell f i) (Store 0) old ∷ []) (visit (Cell f z) (Store 0) other ∷ []) (Unit {0})) (up_same i j e) (tie_map _ _ _ _ (tie_one _ (Cell f i) (Store 0) None old other) (λ z. tt)))

cleared_sure : (v : PortValue) (f count : ℕ) → IsSure v (λ w. Does v w (λ vs. ClearedBy f count vs))
cleared_sure v f count = sure_does v _ (λ us vs p q. cleared_tie f count count us vs p q refl)

-- one word: a load, and a store of what it found
copy_tie : (to from i x y old other : ℕ) →
    Tie (visit (Cell to i) (Store x) old ∷ visit (Cell from i) Load x ∷ []) (visit (Cell to i) (Store y) other ∷ visit (Cell from i) Load y ∷ []) (x ≡ y)
copy_tie to from i x y old other =
    tie_then (visit (Cell from i) Load x ∷ []) (visit (Cell from i) Load y ∷ []) (visit (Cell to i) (Store x) old ∷ []) (visit (Cell to i) (Store y) other ∷ []) (x ≡ y) (x ≡ y) (tie_one _ (Cell from i) Load None x y)
    (λ s e. subst (λ z. Tie (visit (Cell to i) (Store x) old ∷ []) (visit (Cell to i) (Store z) other ∷ []) (x ≡ z)) e (tie_map _ _ _ _ (tie_one _ (Cell to i) (Store x) None old other) (λ z. refl)))

copied_tie : (to from : ℕ) (xs ys : List ℕ) (us vs : List Visit) → CopiedBy to from xs us → CopiedBy to from ys vs → length xs ≡ length ys → Tie us vs (xs ≡ ys)
copied_tie to from _ _ _ _ whole.none whole.none e = inr (refl, refl)
copied_tie to from _ _ _ _ whole.none (whole.more y other ys vs q) e = absurd cc
copied_tie to from _ _ _ _ (whole.more x old xs us p) whole.none e = absurd cc
copied_tie to from _ _ _ _ (whole.more x old xs us p) (whole.more y other ys vs q) e =
    tie_then us vs (visit (Cell to (length xs)) (Store x) old ∷ visit (Cell from (length xs)) Load x ∷ []) (visit (Cell to (length ys)) (Store y) other ∷ visit (Cell from (length ys)) Load y ∷ []) (xs ≡ ys) (x ∷ xs ≡ y ∷ ys)
    (copied_tie to from xs ys us vs p q (let t : length xs ≡ length ys = cc in t))
    (λ s same. subst (λ zs. Tie (visit (Cell to (length xs)) (Store x) old ∷ visit (Cell from (length xs)) Load x ∷ []) (visit (Cell to (length zs)) (Store y) other ∷ visit (Cell from (length zs)) Load y ∷ []) (x ∷ xs ≡ y ∷ zs)) same
    (tie_map _ _ _ _ (copy_tie to from (length xs) x y old other) (λ z. ap (λ k. k ∷ xs) z)))

-- ---- cleared
module _ (d f : ℕ) where
  abbrev ClearRest : PortValue → Result ℕ Stop → PortValue → Result (Unit {0}) Stop → Type 0
  ClearRest a (Ok g) w r = (r ≡ Ok tt) × ((b : PortValue) × Does a b (λ vs. ClearedBy f 512 vs) × GaveType b w f Writable)
  ClearRest a (Err e) w r = Ends a (Err e) w r

  clear_view : (v w : PortValue) (r : Result (Unit {0}) Stop) → ClearsPage v d f w r → Chain (λ a g. GotPage v f d a g) ClearRest w r
  clear_view v _ _ (whole.unhad w e g) = record { at = w; answer = Err e; first = g; rest = (refl, refl) }
  clear_view v _ _ (whole.cleared a b w g c t) = record { at = a; answer = Ok f; first = g; rest = (refl, (b, c, t)) }

  clear_rest_fixed : (a : PortValue) (g : Result ℕ Stop) → IsFixed a (ClearRest a g)
  clear_rest_fixed a (Ok g) = fixed_sure (Ok tt) (sure_two (cleared_sure a f 512) (λ b p. gave_type_sure b f Writable))
  clear_rest_fixed a (Err e) = fixed_ends a (Err e)

  pub clears_fixed : (v : PortValue) → IsFixed v (λ w r. ClearsPage v d f w r)
  clears_fixed v = fixed_by (clear_view v) (fixed_then (got_page_fixed f d v) (λ a g p. clear_rest_fixed a g))

-- ---- copied: with the words that were found, where it is done
module _ (d to from : ℕ) where
  abbrev Copy : Type 0
  Copy = Result (List ℕ) Stop

  copying_fixed : (b : PortValue) → IsFixed b (λ c (xs : List ℕ). (length xs ≡ 512) × Does b c (λ vs. CopiedBy to from xs vs))
  copying_fixed b = record { came = λ c xs p. does_came b c _ p.1; alike = λ c e xs ys p q. alike_does p.1 q.1 (λ us vs r s. copied_tie to from xs ys us vs r s (p.0 ∙ sym q.0)) }

  abbrev CopyRest : PortValue → List ℕ → PortValue → Copy → Type 0
  CopyRest c xs w r = (r ≡ Ok xs) × ((e : PortValue) × GaveRef c e from × GaveType e w to Writable)

  abbrev ReferredRest : PortValue → Option Stop → PortValue → Copy → Type 0
  ReferredRest b None w r = Chain (λ c (xs : List ℕ). (length xs ≡ 512) × Does b c (λ vs. CopiedBy to from xs vs)) CopyRest w r
  ReferredRest b (Some e) w r = (r ≡ Err e) × GaveType b w to Writable

  abbrev HadRest : PortValue → Result ℕ Stop → PortValue → Copy → Type 0
  HadRest a (Ok g) w r = Chain (λ b o. GotRef a b from d (ref_answer from o)) ReferredRest w r
  HadRest a (Err e) w r = Ends a (Err e) w r

  abbrev pub told : List ℕ → Result (Unit {0}) Stop → Copy
  told words (Ok done) = Ok words
  told words (Err e) = Err e

  copy_view : (v w : PortValue) (words : List ℕ) (r : Result (Unit {0}) Stop) → CopiesPage v d to from words w r → Chain (λ a g. GotPage v to d a g) HadRest w (told words r)
  copy_view v _ words _ (whole.unhad w e g) = record { at = w; answer = Err e; first = g; rest = (refl, refl) }
  copy_view v _ words _ (whole.unreferred a b w e g u t) = record { at = a; answer = Ok to; first = g; rest = record { at = b; answer = Some e; first = u; rest = (refl, t) } }
  copy_view v _ words _ (whole.copied a b c e w full g u s p t) =
      record { at = a; answer = Ok to; first = g; rest = record { at = b; answer = None; first = u; rest = record { at = c; answer = words; first = (full, s); rest = (refl, (e, p, t)) } } }

  copy_rest_fixed : (c : PortValue) (xs : List ℕ) → IsFixed c (CopyRest c xs)
  copy_rest_fixed c xs = fixed_sure (Ok xs) (sure_two (gave_sure c from) (λ e p. gave_type_sure e to Writable))

  referred_fixed : (b : PortValue) (o : Option Stop) → IsFixed b (ReferredRest b o)
  referred_fixed b None = fixed_then (copying_fixed b) (λ c xs p. copy_rest_fixed c xs)
  referred_fixed b (Some e) = fixed_sure (Err e) (gave_type_sure b to Writable)

  had_fixed : (a : PortValue) (g : Result ℕ Stop) → IsFixed a (HadRest a g)
  had_fixed a (Ok g) = fixed_then (got_fixed a from d) (λ b o p. referred_fixed b o)
  had_fixed a (Err e) = fixed_ends a (Err e)

  copies_fixed : (v : PortValue) → IsFixed v (Chain (λ a g. GotPage v to d a g) HadRest)
  copies_fixed v = fixed_then (got_page_fixed to d v) (λ a g p. had_fixed a g)

  -- the answers are the same, and so are the words, where they were copied
  told_same : (xs ys : List ℕ) (a b : Result (Unit {0}) Stop) → told xs a ≡ told ys b → (a ≡ b) × (a ≡ Ok tt → xs ≡ ys)
  told_same xs ys (Ok a) (Ok b) e = (refl, λ s. let t : xs ≡ ys = cc in t)
  told_same xs ys (Ok a) (Err f) e = absurd cc
  told_same xs ys (Err f) (Ok b) e = absurd cc
  told_same xs ys (Err f) (Err g) e = (let t : f ≡ g = cc in ap (λ z. Err z) t, λ s. absurd cc)

pub clears_page_came : {v w : PortValue} {d f : ℕ} {a : Result (Unit {0}) Stop} → ClearsPage v d f w a → Came v w
clears_page_came {v} {w} {d} {f} {a} p = (clears_fixed d f v).came w a p

pub clears_page_alike : {v w x : PortValue} {d f : ℕ} {a b : Result (Unit {0}) Stop} → ClearsPage v d f w a → ClearsPage v d f x b → Alike v w x (a ≡ b)
clears_page_alike {v} {w} {x} {d} {f} {a} {b} p q = (clears_fixed d f v).alike w x a b p q

pub copies_page_came : {v w : PortValue} {d to from : ℕ} {words : List ℕ} {a : Result (Unit {0}) Stop} → CopiesPage v d to from words w a → Came v w
copies_page_came {v} {w} {d} {to} {from} {words} {a} p = (copies_fixed d to from v).came w _ (copy_view d to from v w words a p)

pub copies_page_alike : {v w x : PortValue} {d to from : ℕ} {words others : List ℕ} {a b : Result (Unit {0}) Stop} → CopiesPage v d to from words w a → CopiesPage v d to from others x b → Alike v w x ((a ≡ b) × (a ≡ Ok tt → words ≡ others))
copies_page_alike {v} {w} {x} {d} {to} {from} {words} {others} {a} {b} p q =
    alike_map ((copies_fixed d to from v).alike w x _ _ (copy_view d to from v w words a p) (copy_view d to from v x others b q)) (told_same d to from words others a b)
