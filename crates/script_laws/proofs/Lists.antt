-- A list that goes on from turn to turn comes to what it comes to at once, whatever the gate says: from one lemma on each of its elements.
use Rattle.std.proofs.Common.{◌≡◌, ◌⊎◌, ℕ, zero, suc, ◌+◌, ◌<◌, ◌≤◌, Bool, List, [], ◌∷◌, ◌++◌, length, Some, None, Result, Ok, Err, refl, sym, ap, ◌∙◌, subst, inl, inr, arith}
use Rattle.std.specs.Prelude.{drop, slice_get}
use Rattle.std.proofs.lemmas.List.{append_assoc, append-nil}
use Rattle.xp_words.specs.declared.reply.Refusal.{Refusal}
use Rattle.xp_words.specs.declared.reply.Refusal.TheVariants.{BatchLong}
use Rattle.xp_words.specs.declared.reply.Stop.{Stop}
use Rattle.xp_words.specs.declared.reply.Stop.TheVariants.{Refused, Paused}
use Rattle.xp_board.specs.Told.{PortValue}
use Rattle.own_cache.proofs.Listing.{opened, there_is}
use Rattle.vcpu_turn.specs.Lists.{DidItems, Fitting, WorksOn, WorksThrough}
use Rattle.vcpu_turn.specs.Lists as lists
use Rattle.script_laws.specs.Plain.{PlainList}

-- ---- one more element is done
pub none_on : {E : Type 0} (es : List E) → drop (length es) es ≡ []
none_on [] = refl
none_on (x ∷ es) = none_on es

-- ---- lists behind one another
pub none_left : {A : Type 0} (xs : List A) (k : ℕ) → slice_get xs k ≡ None → drop k xs ≡ []
none_left [] zero is = refl
none_left [] (suc k) is = refl
none_left (x ∷ xs) zero is = absurd (cc)
none_left (x ∷ xs) (suc k) is = none_left xs k is

pub appended : {A : Type 0} (xs ys zs ws : List A) → zs ≡ xs ++ ys → zs ++ ws ≡ xs ++ (ys ++ ws)
appended xs ys zs ws is = ap (λ ts. ts ++ ws) is ∙ append_assoc xs ys ws

-- `IsWhy x y`: that refusal is for that reason. `Fair`: what is said of a port and holds at the earlier ones, too. `Owes v s`: what is settled first leaves s. `KeptAt k v s`: element k was
-- paused in an earlier turn, and s is the value before it; `LeftAt` the same of one that this turn paused. `gives`: what an element logged, and `Said bs ls` that these are those lines.
module _ {E Solo Why Line Outcome Answered B : Type 0} (plain : PlainList E Solo Why Line Outcome Answered) (es : List E) (IsWhy : Refusal → Why → Type 0) (Fair : PortValue → Type 0) (Owes : PortValue → Solo → Type 0) (KeptAt LeftAt : ℕ → PortValue → Solo → Type 0)
    (fits : Fitting) (gives : (k : ℕ) (u w : PortValue) (asked : List Bool) (r : Result (Unit {0}) Stop) → fits k u w asked r → List B) (Said : List B → List Line → Type 0) where
  -- what a turn's work logged: an element that is not done has logged nothing
  abbrev pub gave_did : (from : ℕ) (v : PortValue) (to : ℕ) (w : PortValue) (answers : List Bool) → DidItems fits (length es) from v to w answers → List B
  gave_did from v _ _ _ lists.DidItems.none = []
  gave_did from v _ _ _ (lists.DidItems.more k u w answers asked did fit less) = gave_did from v k u answers did ++ gives k u w asked (Ok tt) fit

  abbrev pub gave_on : (from : ℕ) (v : PortValue) (to : ℕ) (w : PortValue) (answers : List Bool) (r : Result (Unit {0}) Stop) → WorksOn fits (length es) from v to w answers r → List B
  gave_on from v _ _ _ _ (lists.WorksOn.all_done at) = []
  gave_on from v _ _ _ _ (lists.WorksOn.last_done k u w answers asked did fit at) = gave_did from v k u answers did ++ gives k u w asked (Ok tt) fit
  gave_on from v _ _ _ _ (lists.WorksOn.due k u w answers asked did fit less) = gave_did from v k u answers did ++ gives k u w asked (Ok tt) fit
  gave_on from v _ _ _ _ (lists.WorksOn.stopped k u w answers asked e did fit less) = gave_did from v k u answers did

  -- before element number k: what is settled first comes to s; or that element was paused, and s is the value before it
  abbrev pub Pending : ℕ → PortValue → Solo → Type 0
  Pending k v s = Owes v s ⊎ KeptAt k v s

  abbrev pub Left : ℕ → PortValue → Solo → Type 0
  Left k v s = Owes v s ⊎ LeftAt k v s

  -- what one element comes to, which gave these
  abbrev pub ItemComes : ℕ → Solo → Outcome → List B → PortValue → Result (Unit {0}) Stop → Type 0
  ItemComes k s o gave w (Ok done) = (plain.refusal o ≡ None) × Said gave (plain.lines o) × Owes w (plain.left o)
  ItemComes k s o gave w (Err (Refused x)) = (y : Why) × (plain.refusal o ≡ Some y) × (plain.lines o ≡ []) × IsWhy x y × Owes w (plain.left o)
  ItemComes k s o gave w (Err (Paused p)) = Left k w s

  -- all that is left from s, with k done, comes to a behind the lines that were logged
  abbrev pub Comes : List Line → ℕ → Solo → Answered → Type 0
  Comes made k s a = plain.behind made (plain.in_order (drop k es) k s) ≡ a

  -- where it stands behind elements that are done
  abbrev pub Stands : List Line → Answered → ℕ → PortValue → Type 0
  Stands made a k w = (t : Solo) × Comes made k t a × Pending k w t

  -- what the list comes to in a turn that leaves it with k done
  abbrev pub ListComes : List Line → Answered → ℕ → PortValue → Result (Unit {0}) Stop → Type 0
  ListComes made a k w (Ok done) = (t : Solo) × (a ≡ plain.answered k None made t) × Owes w t
  ListComes made a k w (Err (Refused x)) = (t : Solo) × (y : Why) × (a ≡ plain.answered k (Some y) made t) × IsWhy x y × Owes w t
  ListComes made a k w (Err (Paused p)) = (t : Solo) × Comes made k t a × Left k w t

  one_more : (made : List Line) (k : ℕ) (e : E) (s : Solo) (a : Answered) → slice_get es k ≡ Some e → plain.refusal (plain.one k e s) ≡ None → Comes made k s a → Comes (made ++ plain.lines (plain.one k e s)) (k + 1) (plain.left (plain.one k e s)) a
  one_more made k e s a is fine c =
      let more : suc k ≡ k + 1 = omega arith in
      let o = plain.one k e s in
      subst (λ j. plain.behind (made ++ plain.lines o) (plain.in_order (drop j es) j (plain.left o)) ≡ a) more
      (sym (plain.behind_both made (plain.lines o) (plain.in_order (drop (suc k) es) (suc k) (plain.left o)))
      ∙ (sym (ap (λ xs. plain.behind made (plain.in_order xs k s)) (opened es k e is) ∙ ap (plain.behind made) (plain.goes_on e (drop (suc k) es) k s fine)) ∙ c))

  one_stopped : (made : List Line) (k : ℕ) (e : E) (s : Solo) (a : Answered) (y : Why) → slice_get es k ≡ Some e → plain.refusal (plain.one k e s) ≡ Some y → plain.lines (plain.one k e s) ≡ [] → Comes made k s a → a ≡ plain.answered k (Some y) made (plain.left (plain.one k e s))
  one_stopped made k e s a y is off none c =
      let o = plain.one k e s in
      sym c ∙ (ap (λ xs. plain.behind made (plain.in_order xs k s)) (opened es k e is) ∙ (ap (plain.behind made) (plain.ends_at e (drop (suc k) es) k s y off)
      ∙ (plain.behind_it made (plain.lines o) k (Some y) (plain.left o) ∙ ap (λ ls. plain.answered k (Some y) ls (plain.left o)) (ap (λ ls. made ++ ls) none ∙ append-nil made))))

  all_there : (made : List Line) (k : ℕ) (s : Solo) (a : Answered) → k ≡ length es → Comes made k s a → a ≡ plain.answered k None made s
  all_there made k s a all c =
      sym c ∙ (ap (λ xs. plain.behind made (plain.in_order xs k s)) (ap (λ j. drop j es) all ∙ none_on es) ∙ (ap (plain.behind made) (plain.at_end k s)
      ∙ (plain.behind_it made [] k None s ∙ ap (λ ls. plain.answered k None ls s) (append-nil made))))

  -- what each element comes to; an element that was paused is one of the list; and lines behind each other
  pub record ListLemmas : Type 0 where
    pub item : (k : ℕ) (e : E) (s : Solo) (u w : PortValue) (asked : List Bool) (r : Result (Unit {0}) Stop) → slice_get es k ≡ Some e → Fair w → (fit : fits k u w asked r) → Pending k u s → ItemComes k s (plain.one k e s) (gives k u w asked r fit) w r
    pub back : (k : ℕ) (u w : PortValue) (asked : List Bool) (r : Result (Unit {0}) Stop) → fits k u w asked r → Fair w → Fair u
    pub inside : (k : ℕ) (v : PortValue) (s : Solo) → KeptAt k v s → k < length es
    pub said_none : Said [] []
    pub said_more : (bs cs : List B) (ls ms : List Line) → Said bs ls → Said cs ms → Said (bs ++ cs) (ls ++ ms)

  module _ (l : ListLemmas) where
    -- behind elements that this turn did
    abbrev Stood : List B → List Line → Answered → ℕ → PortValue → Type 0
    Stood gave made a k w = (new : List Line) × Said gave new × Stands (made ++ new) a k w

    done_once : (made : List Line) (gave : List B) (a : Answered) (k : ℕ) (u w : PortValue) (asked : List Bool) → k < length es → Fair w → (fit : fits k u w asked (Ok tt)) → Stood gave made a k u →
        (new : List Line) × Said (gave ++ gives k u w asked (Ok tt) fit) new × ((t : Solo) × Comes (made ++ new) (k + 1) t a × Owes w t)
    done_once made gave a k u w asked less fair fit (new, said, (s, c, pending)) =
        let there = there_is es k less in
        let o = plain.one k there.0 s in
        let comes = l.item k there.0 s u w asked (Ok tt) there.1 fair fit pending in (
          new ++ plain.lines o,
          l.said_more gave (gives k u w asked (Ok tt) fit) new (plain.lines o) said comes.1,
          (plain.left o, subst (λ ls. Comes ls (k + 1) (plain.left o) a) (append_assoc made new (plain.lines o)) (one_more (made ++ new) k there.0 s a there.1 comes.0 c), comes.2),
        )

    owed_at : (k : ℕ) (v : PortValue) (t : Solo) → k ≡ length es → Pending k v t → Owes v t
    owed_at k v t all (inl owes) = owes
    owed_at k v t all (inr kept) = absurd (let less = l.inside k v t kept in omega arith)

    stopped_once : (made : List Line) (a : Answered) (k : ℕ) (u w : PortValue) (asked : List Bool) (e : Stop) → k < length es → Fair w → fits k u w asked (Err e) → Stands made a k u → ListComes made a k w (Err e)
    stopped_once made a k u w asked (Refused x) less fair fit (s, c, pending) =
        let there = there_is es k less in
        let o = l.item k there.0 s u w asked (Err (Refused x)) there.1 fair fit pending in
        (plain.left (plain.one k there.0 s), o.0, one_stopped made k there.0 s a o.0 there.1 o.1 o.2 c, o.3, o.4)
    stopped_once made a k u w asked (Paused p) less fair fit (s, c, pending) =
        let there = there_is es k less in
        (s, c, l.item k there.0 s u w asked (Err (Paused p)) there.1 fair fit pending)

    did_all : (made : List Line) (a : Answered) (from : ℕ) (v : PortValue) (to : ℕ) (w : PortValue) (answers : List Bool) (did : DidItems fits (length es) from v to w answers) → Fair w → (Fair v → Stands made a from v) → Stood (gave_did from v to w answers did) made a to w
    did_all made a from v _ _ _ lists.DidItems.none fair stands = ([], l.said_none, subst (λ ls. Stands ls a from v) (sym (append-nil made)) (stands fair))
    did_all made a from v _ _ _ (lists.DidItems.more k u w answers asked did fit less) fair stands =
        let d = done_once made (gave_did from v k u answers did) a k u w asked (omega arith) fair fit (did_all made a from v k u answers did (l.back k u w asked (Ok tt) fit fair) stands) in
        (d.0, d.1, (d.2.0, d.2.1, inl d.2.2))

    -- the turn's work on the list, of which `made` was logged before
    pub list_comes : (made : List Line) (a : Answered) (from : ℕ) (v : PortValue) (to : ℕ) (w : PortValue) (answers : List Bool) (r : Result (Unit {0}) Stop) (works : WorksOn fits (length es) from v to w answers r) → Fair w → (Fair v → Stands made a from v) →
        (new : List Line) × Said (gave_on from v to w answers r works) new × ListComes (made ++ new) a to w r
    list_comes made a from v _ _ _ _ (lists.WorksOn.all_done at) fair stands =
        let d = stands fair in ([], l.said_none, subst (λ ls. ListComes ls a from v (Ok tt)) (sym (append-nil made)) (d.0, all_there made from d.0 a at d.1, owed_at from v d.0 at d.2))
    list_comes made a from v _ _ _ _ (lists.WorksOn.last_done k u w answers asked did fit at) fair stands =
        let d = done_once made (gave_did from v k u answers did) a k u w asked (omega arith) fair fit (did_all made a from v k u answers did (l.back k u w asked (Ok tt) fit fair) stands) in
        (d.0, d.1, (d.2.0, all_there (made ++ d.0) (k + 1) d.2.0 a at d.2.1, d.2.2))
    list_comes made a from v _ _ _ _ (lists.WorksOn.due k u w answers asked did fit less) fair stands =
        let d = done_once made (gave_did from v k u answers did) a k u w asked (omega arith) fair fit (did_all made a from v k u answers did (l.back k u w asked (Ok tt) fit fair) stands) in
        (d.0, d.1, (d.2.0, d.2.1, inl d.2.2))
    list_comes made a from v _ _ _ _ (lists.WorksOn.stopped k u w answers asked e did fit less) fair stands =
        let d = did_all made a from v k u answers did (l.back k u w asked (Err e) fit fair) stands in
        (d.0, d.1, stopped_once (made ++ d.0) a k u w asked e less fair fit d.2)

    -- ---- lists of any length
    -- a list is too long, and will be refused whole, as `long` says; or it stands so
    abbrev pub ThroughStands : (Solo → Answered) → List Line → Answered → ℕ → PortValue → Type 0
    ThroughStands long made a k v = ((512 < length es) × (made ≡ []) × ((s : Solo) × Owes v s × (a ≡ long s))) ⊎ ((length es ≤ 512) × Stands made a k v)

    -- the turn's work on it, which comes to that
    abbrev pub ThroughComes : (Solo → Answered) → List Line → Answered → (v : PortValue) (from to : ℕ) (w : PortValue) (answers : List Bool) (r : Result (Unit {0}) Stop) → WorksThrough fits (length es) v from to w answers r → Type 0
    ThroughComes long made a v from to w answers r (inl whole) = (to ≡ 0) × (r ≡ Err (Refused BatchLong)) × (made ≡ []) × ((s : Solo) × Owes w s × (a ≡ long s))
    ThroughComes long made a v from to w answers r (inr on) = (new : List Line) × Said (gave_on from v to w answers r on.1) new × ListComes (made ++ new) a to w r

    few_stand : (long : Solo → Answered) (made : List Line) (a : Answered) (k : ℕ) (v : PortValue) → length es ≤ 512 → ThroughStands long made a k v → Stands made a k v
    few_stand long made a k v few (inl many) = absurd (let more = many.0 in omega arith)
    few_stand long made a k v few (inr stands) = stands.1

    long_stands : (long : Solo → Answered) (made : List Line) (a : Answered) (k : ℕ) (v : PortValue) → 512 < length es → ThroughStands long made a k v → (made ≡ []) × ((s : Solo) × Owes v s × (a ≡ long s))
    long_stands long made a k v more (inl many) = (many.1, many.2)
    long_stands long made a k v more (inr few) = absurd (let less = few.0 in omega arith)

    pub through_comes : (long : Solo → Answered) (made : List Line) (a : Answered) (v : PortValue) (from to : ℕ) (w : PortValue) (answers : List Bool) (r : Result (Unit {0}) Stop) (works : WorksThrough fits (length es) v from to w answers r) → Fair w → (Fair v → ThroughStands long made a from v) →
        ThroughComes long made a v from to w answers r works
    through_comes long made a v from to w answers r (inl whole) fair stands =
        let k = long_stands long made a from v whole.0 (stands (subst Fair whole.1.no_step fair)) in
        (whole.1.none, whole.1.refused, k.0, (k.1.0, subst (λ y. Owes y k.1.0) (sym whole.1.no_step) k.1.1, k.1.2))
    through_comes long made a v from to w answers r (inr on) fair stands = list_comes made a from v to w answers r on.1 fair (λ f. few_stand long made a from v on.0 (stands f))
