-- Lists of memory_op are determined: also how far the next extent is, and which blocks were given.
use Rattle.std.proofs.Common.{◌≡◌, ◌<◌, ◌⊎◌, ℕ, ◌+◌, ◌-◌, ◌^◌, Bool, true, false, List, [], ◌∷◌, ◌++◌, append-nil, length, Option, Some, None, Result, Ok, Err, refl, sym, ap, ◌∙◌, subst, inl, inr}
use native.Mathlib.Omega.{arith}
use Rattle.xp_words.specs.declared.reply.Refusal.{Refusal}
use Rattle.xp_words.specs.declared.reply.Stop.{Stop}
use Rattle.xp_board.specs.Told.{PortValue}
use Rattle.step_maker.specs.Moves.{Came}
use Rattle.step_maker.proofs.Coming.{came_self}
use Rattle.xp_preempt.specs.Gates.{GivesAnswers}
use Rattle.reservations.specs.Extents.{Reserves}
use Rattle.reservations.specs.declared.extents.Extent.{Extent}
use Rattle.vcpu_turn.specs.Extents.{Block, ExtentFits, PlacesExtents, WorksExtents, begins_in, block_at, extent_at, extents_in, gave_did, gave_extents, gave_on, given_by, left_in, mem_refusal, place_for}
use Rattle.vcpu_turn.specs.Lists.{DidItems, WorksOn}
use Rattle.determined_laws.specs.Courses.{Alike}
use Rattle.determined_laws.proofs.Courses.{alike_map, alike_same}
use Rattle.determined_claims.proofs.Extents.{reserves_alike, reserves_came}
use Rattle.determined_turns.proofs.Elements.{whole_alike, whole_came}
use Rattle.determined_turns.proofs.Lists.{Answer, outs_did, outs_on, works_on_alike, works_on_came}

-- what an extent tells: the block, where it is done, and how far it is, where it is not
abbrev Told : Type 0
Told = Option ℕ × ℕ

abbrev told_by : Answer → Option ℕ → ℕ → Told
told_by (Ok done) given left = (given, 0)
told_by (Err e) given left = (None, left)

module _ (d command order : ℕ) (items : List ℕ) where
  module _ (from within : ℕ) where
    abbrev Fits : ℕ → PortValue → PortValue → List Bool → Answer → Type 0
    Fits k v w asked a = ExtentFits d command order items from within k v w asked a

    abbrev seen : (k : ℕ) (u w : PortValue) (asked : List Bool) (a : Answer) → Fits k u w asked a → Told
    seen k u w asked a fit = told_by a fit.given fit.left

    fit_came : (k : ℕ) (u w : PortValue) (asked : List Bool) (a : Answer) → Fits k u w asked a → Came u w
    fit_came k u w asked a fit = reserves_came fit.reserves

    one_extent : (e f : Extent) (o : Option Extent) → o ≡ Some e → o ≡ Some f → e ≡ f
    one_extent e f o is also = let s : ◌≡◌ {A = Option Extent} (Some e) (Some f) = sym is ∙ also in cc

    one_told : (a b : Answer) (given other : Option ℕ) (left right : ℕ) → left ≡ right → given_by given a ≡ given_by other b → (a ≡ b) × (told_by a given left ≡ told_by b other right)
    one_told (Ok x) (Ok y) given other left right e s = (refl, let t : given ≡ other = cc in ap (λ z. (z, 0)) t)
    one_told (Ok x) (Err f) given other left right e s = absurd cc
    one_told (Err f) (Ok x) given other left right e s = absurd cc
    one_told (Err f) (Err g) given other left right e s = (let t : f ≡ g = cc in ap (λ z. Err z) t, ap (λ z. (None, z)) e)

    fit_alike : (says : ℕ → Bool) (k : ℕ) (u w x : PortValue) (asked others : List Bool) (a b : Answer) (m : ℕ) → GivesAnswers says m asked → GivesAnswers says m others → (p : Fits k u w asked a) → (q : Fits k u x others b) →
        Alike u w x ((asked ≡ others) × (a ≡ b) × (seen k u w asked a p ≡ seen k u x others b q))
    fit_alike says k u w x asked others a b m g h p q =
        alike_map
        (reserves_alike p.reserves (subst (λ z. Reserves d (2 ^ order) z (place_for from within k) u q.left x (given_by q.given b)) (sym (one_extent p.extent q.extent (extent_at command items k) p.is q.is)) q.reserves))
        (λ s. let t = one_told a b p.given q.given p.left q.left s.0 s.1 in (p.no_ask ∙ sym q.no_ask, t.0, t.1))

    -- ---- the blocks and the place, by what the extents told
    blocks : ℕ → List Told → List Block
    blocks first [] = []
    blocks first (o ∷ os) = blocks first os ++ block_at (first + length os) o.0

    place_by : ℕ → List Told → ℕ
    place_by old [] = old
    place_by old (o ∷ os) = o.1

    abbrev Did : (first : ℕ) (v : PortValue) (k : ℕ) (u : PortValue) (answers : List Bool) → DidItems Fits (extents_in command items) first v k u answers → List Told
    Did first v k u answers did = outs_did Fits (extents_in command items) Told seen first v k u answers did

    abbrev On : (first : ℕ) (v : PortValue) (to : ℕ) (w : PortValue) (answers : List Bool) (a : Answer) → WorksOn Fits (extents_in command items) first v to w answers a → List Told
    On first v to w answers a works = outs_on Fits (extents_in command items) Told seen first v to w answers a works

    did_far : (first : ℕ) (v : PortValue) (k : ℕ) (u : PortValue) (answers : List Bool) (did : DidItems Fits (extents_in command items) first v k u answers) → k ≡ first + length (Did first v k u answers did)
    did_far first v _ _ _ DidItems.none = omega arith
    did_far first v _ _ _ (DidItems.more k u w answers asked did fit less) = let e = did_far first v k u answers did in omega (arith, e)

    did_gave : (first : ℕ) (v : PortValue) (k : ℕ) (u : PortValue) (answers : List Bool) (did : DidItems Fits (extents_in command items) first v k u answers) → gave_did did ≡ blocks first (Did first v k u answers did)
    unfolding blocks
    did_gave first v _ _ _ DidItems.none = refl
    did_gave first v _ _ _ (DidItems.more k u w answers asked did fit less) =
        ap (λ z. z ++ block_at k fit.given) (did_gave first v k u answers did) ∙ ap (λ z. blocks first (Did first v k u answers did) ++ block_at z fit.given) (did_far first v k u answers did)

    on_gave : (first : ℕ) (v : PortValue) (to : ℕ) (w : PortValue) (answers : List Bool) (a : Answer) (works : WorksOn Fits (extents_in command items) first v to w answers a) → gave_on works ≡ blocks first (On first v to w answers a works)
    unfolding blocks
    on_gave first v _ _ _ _ (WorksOn.all_done at) = refl
    on_gave first v _ _ _ _ (WorksOn.last_done k u w answers asked did fit at) =
        ap (λ z. z ++ block_at k fit.given) (did_gave first v k u answers did) ∙ ap (λ z. blocks first (Did first v k u answers did) ++ block_at z fit.given) (did_far first v k u answers did)
    on_gave first v _ _ _ _ (WorksOn.due k u w answers asked did fit less) =
        ap (λ z. z ++ block_at k fit.given) (did_gave first v k u answers did) ∙ ap (λ z. blocks first (Did first v k u answers did) ++ block_at z fit.given) (did_far first v k u answers did)
    on_gave first v _ _ _ _ (WorksOn.stopped k u w answers asked e did fit less) = did_gave first v k u answers did ∙ sym (append-nil (blocks first (Did first v k u answers did)))

    on_place : (old first : ℕ) (v : PortValue) (to : ℕ) (w : PortValue) (answers : List Bool) (a : Answer) (works : WorksOn Fits (extents_in command items) first v to w answers a) → left_in works old ≡ place_by old (On first v to w answers a works)
    unfolding place_by
    on_place old first v _ _ _ _ (WorksOn.all_done at) = refl
    on_place old first v _ _ _ _ (WorksOn.last_done k u w answers asked did fit at) = refl
    on_place old first v _ _ _ _ (WorksOn.due k u w answers asked did fit less) = refl
    on_place old first v _ _ _ _ (WorksOn.stopped k u w answers asked e did fit less) = refl

    on_alike : (says : ℕ → Bool) (n : ℕ) (old first : ℕ) (v w x : PortValue) (to other : ℕ) (answers others : List Bool) (a b : Answer) → GivesAnswers says n answers → GivesAnswers says n others →
        (p : WorksOn Fits (extents_in command items) first v to w answers a) → (q : WorksOn Fits (extents_in command items) first v other x others b) →
        Alike v w x ((to ≡ other) × (answers ≡ others) × (a ≡ b) × (left_in p old ≡ left_in q old) × (gave_on p ≡ gave_on q))
    on_alike says n old first v w x to other answers others a b g h p q =
        alike_map (works_on_alike Fits (extents_in command items) Told seen says n fit_came (fit_alike says) first to other v w x answers others a b g h p q)
        (λ s. (s.0, s.1, s.2, on_place old first v to w answers a p ∙ (ap (place_by old) s.3 ∙ sym (on_place old first v other x others b q)), on_gave first v to w answers a p ∙ (ap (blocks first) s.3 ∙ sym (on_gave first v other x others b q))))

    on_came : (says : ℕ → Bool) (n : ℕ) (first : ℕ) (v w : PortValue) (to : ℕ) (answers : List Bool) (a : Answer) → GivesAnswers says n answers → WorksOn Fits (extents_in command items) first v to w answers a → Came v w
    on_came says n first v w to answers a g p = works_on_came Fits (extents_in command items) Told seen says n fit_came (fit_alike says) first to v w answers a g p

  pub extents_came : (says : ℕ → Bool) (n from : ℕ) (v w : PortValue) (to : ℕ) (answers : List Bool) (a : Answer) → GivesAnswers says n answers → WorksExtents d command order items v from to w answers a → Came v w
  extents_came says n from v _ _ _ _ g (WorksExtents.refused to w answers a x why whole) = whole_came x v to w answers a whole
  extents_came says n from v _ _ _ _ g (WorksExtents.none why empty) = came_self v
  extents_came says n from v _ _ _ _ g (WorksExtents.on to within w answers a why some works) = on_came (begins_in command from) within says n (begins_in command from) v w to answers a g works

  none_apart : {A : Type 0} (x : Refusal) (o : Option Refusal) → o ≡ Some x → o ≡ None → A
  none_apart x o e f = absurd (let t = sym e ∙ f in cc)

  one_refusal : (x y : Refusal) (o : Option Refusal) → o ≡ Some x → o ≡ Some y → x ≡ y
  one_refusal x y o e f = let t : ◌≡◌ {A = Option Refusal} (Some x) (Some y) = sym e ∙ f in cc

  abbrev At : (from : ℕ) (v : PortValue) (other : ℕ) (x : PortValue) (others : List Bool) (b : Answer) → ℕ → Type 0
  At from v other x others b z = WorksOn (Fits (begins_in command from) z) (extents_in command items) (begins_in command from) v other x others b

  -- two that go on from one place
  same_place : (says : ℕ → Bool) (n from old late : ℕ) (v w x : PortValue) (to other : ℕ) (answers others : List Bool) (a b : Answer) → GivesAnswers says n answers → GivesAnswers says n others → (y z : ℕ) → (p : At from v to w answers a y) →
      (q : At from v other x others b z) → late ≡ left_in q old → y ≡ z → Alike v w x ((to ≡ other) × (answers ≡ others) × (a ≡ b) × (left_in p old ≡ left_in q old) × (gave_on p ≡ gave_on q) × (late ≡ left_in q old))
  same_place says n from old late v w x to other answers others a b g h y z p q is same =
      subst (λ k. (r : At from v other x others b k) → late ≡ left_in r old → Alike v w x ((to ≡ other) × (answers ≡ others) × (a ≡ b) × (left_in p old ≡ left_in r old) × (gave_on p ≡ gave_on r) × (late ≡ left_in r old))) same
      (λ r also. alike_map (on_alike (begins_in command from) y says n old (begins_in command from) v w x to other answers others a b g h p r) (λ s. (s.0, s.1, s.2, s.3, s.4, also))) q is

  pub extents_alike : (says : ℕ → Bool) (n from old new late : ℕ) (v w x : PortValue) (to other : ℕ) (answers others : List Bool) (a b : Answer) → GivesAnswers says n answers → GivesAnswers says n others →
      (p : WorksExtents d command order items v from to w answers a) → (q : WorksExtents d command order items v from other x others b) → PlacesExtents p old new → PlacesExtents q old late →
      Alike v w x ((to ≡ other) × (answers ≡ others) × (a ≡ b) × (new ≡ late) × (gave_extents p ≡ gave_extents q))
  extents_alike says n from old new late v _ _ _ _ _ _ _ _ g h (WorksExtents.refused to w answers a x why whole) (WorksExtents.refused other y others b z also entire) e f =
      alike_map (whole_alike x z v to other w y answers others a b (one_refusal x z (mem_refusal command order items) why also) whole entire) (λ s. (s.0, s.1, s.2, e ∙ sym f, refl))
  extents_alike says n from old new late v _ _ _ _ _ _ _ _ g h (WorksExtents.refused to w answers a x why whole) (WorksExtents.none fine empty) e f = none_apart x (mem_refusal command order items) why fine
  extents_alike says n from old new late v _ _ _ _ _ _ _ _ g h (WorksExtents.refused to w answers a x why whole) (WorksExtents.on other within y others b fine some works) e f = none_apart x (mem_refusal command order items) why fine
  extents_alike says n from old new late v _ _ _ _ _ _ _ _ g h (WorksExtents.none fine empty) (WorksExtents.refused to w answers a x why whole) e f = none_apart x (mem_refusal command order items) why fine
  extents_alike says n from old new late v _ _ _ _ _ _ _ _ g h (WorksExtents.none fine empty) (WorksExtents.none well void) e f = alike_same refl (refl, refl, refl, e ∙ sym f, refl)
  extents_alike says n from old new late v _ _ _ _ _ _ _ _ g h (WorksExtents.none fine empty) (WorksExtents.on other within y others b well some works) e f = absurd (omega (arith, empty, some))
  extents_alike says n from old new late v _ _ _ _ _ _ _ _ g h (WorksExtents.on to within w answers a fine some works) (WorksExtents.refused other y others b x why whole) e f = none_apart x (mem_refusal command order items) why fine
  extents_alike says n from old new late v _ _ _ _ _ _ _ _ g h (WorksExtents.on to within w answers a fine some works) (WorksExtents.none well empty) e f = absurd (omega (arith, empty, some))
  extents_alike says n from old new late v _ _ _ _ _ _ _ _ g h (WorksExtents.on to within w answers a fine some works) (WorksExtents.on other deep x others b well any goes) e f =
      alike_map (same_place says n from old late v w x to other answers others a b g h within deep works goes f.1 (e.0 ∙ sym f.0)) (λ s. (s.0, s.1, s.2, e.1 ∙ (s.3 ∙ sym s.5), s.4))
