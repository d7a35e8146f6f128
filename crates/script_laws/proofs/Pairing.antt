-- Lists of `mmu_update` that go on from turn to turn.
use Rattle.std.proofs.Common.{◌≡◌, ◌⊎◌, ℕ, ◌<◌, ◌≤◌, nat_lt, Bool, true, false, List, [], ◌∷◌, ◌++◌, length, Option, Some, None, Result, Ok, Err, refl, sym, ap, ◌∙◌, subst, inl, inr, arith}
use Rattle.std.proofs.lemmas.Bool.Decides.{nat_tests}
use Rattle.std.proofs.lemmas.List.{append-nil}
use Rattle.std.specs.Prelude.{drop, slice_get}
use Rattle.std.proofs.Math.Path.{fun_ext}
use Rattle.xp_words.specs.declared.ops.Pair.{Pair}
use Rattle.xp_words.specs.declared.reply.LogLine.{LogLine}
use Rattle.xp_words.specs.declared.reply.Refusal.{Refusal}
use Rattle.xp_words.specs.declared.reply.Refusal.TheVariants.{BatchLong}
use Rattle.xp_words.specs.declared.reply.Reply.{Reply}
use Rattle.xp_words.specs.declared.reply.Stop.{Stop}
use Rattle.xp_words.specs.declared.reply.Stop.TheVariants.{Refused, Paused}
use Rattle.xp_board.specs.Told.{Post, PortValue}
use Rattle.xp_words.specs.declared.place.Place.{Place}
use Rattle.xp_words.specs.declared.place.Place.TheVariants.{Cell, Clock, Kind, Life, M2p, Map, Pages, Priv, Refs, Vcpu}
use Rattle.step_maker.specs.Plain.{Words}
use Rattle.step_maker.proofs.Coming.{came_post, came_trans}
use Rattle.foreign_map.specs.Owning.{refuse_owners}
use Rattle.foreign_map.specs.declared.owners.Owners.{Owners}
use Rattle.mmu_update.specs.Elements as pairs
use Rattle.mmu_update.specs.Fits.{Updates}
use Rattle.course_laws.proofs.Awaiting.{AloneStays, NeitherLostNorBusy}
use Rattle.script_law.specs.Elements.{pair_alone}
use Rattle.script_law.specs.Scripts.{Answered, answered, in_order, listed, logged_behind, owned_by, owned_pairs, refused}
use Rattle.script_law.specs.Values.{Line, Outcome, Solo, of_domains}
use Rattle.solo_ports.specs.Standing.{whose}
use Rattle.solo_ports.proofs.Along.{owes_on}
use Rattle.vcpu_turn.specs.Cpus.{reply_of}
use Rattle.vcpu_turn.specs.Lists.{DidItems, Fitting, WorksOn}
use Rattle.vcpu_turn.specs.Lists as lists
use Rattle.vcpu_turn.specs.Pairs.{FindsOwners, FitsPair, PairFits, WorksOwned}
use Rattle.vcpu_turn.specs.Pairs as owning
use Rattle.vcpu_turn.specs.Settling.{SettlesFirst}
use Rattle.vcpu_turn.specs.Working.{valued}
use Rattle.vcpu_turn.specs.declared.cpu.Progress.{Progress}
use Rattle.vcpu_turn.proofs.Hindering.{pairs_came}
use Rattle.script_laws.specs.Logged.{AreLines, IsReply, IsShown}
use Rattle.script_laws.proofs.Items.{IsKeeping, LawOf, OwesF}
use Rattle.script_laws.proofs.Listed.{KeptIn, gives_none, list_lemmas, no_lines, plain_list}
use Rattle.script_laws.proofs.Lists.{ListComes, ListLemmas, Stands as ListStands, gave_did, gave_on, list_comes}
use Rattle.script_laws.proofs.Owning.{found_had, found_none, owners_alike}
use Rattle.script_laws.proofs.Premises.{FairFrom}
use Rattle.script_laws.proofs.Settling.{stands_in}
use Rattle.script_laws.proofs.Tasks.{Begins, Comes, IsTaskAnswered, MayName, OwesT, own, owners_of}
use Rattle.script_laws.proofs.Untouched.{SameDomains, itself, updates_keep}

-- the words of domains of a plain value
words_by : (ℕ → ℕ) → (ℕ → ℕ) → Solo → Words
words_by privileges lives s = of_domains (record s { privileges = privileges; lives = lives })

each : (q : Place) (s t : Solo) → words_by s.privileges s.lives t q ≡ of_domains s q
unfolding words_by
each (Priv d) s t = refl
each (Life d) s t = refl
each (Clock) s t = refl
each (Pages d) s t = refl
each (Vcpu v k) s t = refl
each (Refs f) s t = refl
each (Kind f) s t = refl
each (M2p f) s t = refl
each (Cell f i) s t = refl
each (Map k) s t = refl

same_domains : (s t : Solo) → SameDomains s t → of_domains t ≡ of_domains s
unfolding words_by
same_domains s t same = ap (λ f. words_by f t.lives t) same.privileges ∙ (ap (λ f. words_by s.privileges f t) same.lives ∙ fun_ext (λ q. each q s t))

-- what is kept of an element that was paused, and its law
abbrev pub KeptOfPair : Type 1
KeptOfPair = Owners → Pair → PortValue → Solo → Type 0

module _ (stays : AloneStays) (neither : NeitherLostNorBusy) (v0 : PortValue) (KeepsPair : KeptOfPair)
    (keeping : (foreign : ℕ) (p : Pair) → IsKeeping stays neither v0 (MayName stays neither v0 foreign) (KeepsPair (owners_of stays neither v0 foreign) p))
    (law : (foreign : ℕ) (p : Pair) → LawOf stays neither v0 (MayName stays neither v0 foreign) (λ v w asked r. Updates (owners_of stays neither v0 foreign) (pairs.element_of p) v w asked r) (KeepsPair (owners_of stays neither v0 foreign) p) (pair_alone (own stays neither v0) (owners_of stays neither v0 foreign) p)) (real : (whose v0).domain < length v0.post.machine.page_limit) (op foreign : ℕ) (list : List Pair) where
  abbrev pub o : Owners
  o = owners_of stays neither v0 foreign

  abbrev pub May : Solo → Type 0
  May = MayName stays neither v0 foreign

  pub may_on : (s t : Solo) → SameDomains s t → May s → May t
  may_on s t same (lives, none) =
      (ap (λ (l : ℕ → ℕ). l (whose v0).domain) same.lives ∙ lives, ap (λ (m : Words). refuse_owners (whose v0).machine m (whose v0).domain foreign) (same_domains s t same) ∙ none)

  abbrev pub one : Pair → Solo → Outcome
  one p s = pair_alone (own stays neither v0) o p s

  pub fits_some : (k : ℕ) (e : Pair) (u w : PortValue) (asked : List Bool) (r : Result (Unit {0}) Stop) → slice_get list k ≡ Some e → PairFits o list k u w asked r → SettlesFirst (λ v w asked r. Updates o (pairs.element_of e) v w asked r) u w asked r
  fits_some k e u w asked r at f = subst (λ x. FitsPair o x u w asked r) at f

  -- ---- the elements
  abbrev fits : Fitting
  fits = PairFits o list

  abbrev by : ℕ → Pair → PortValue → PortValue → List Bool → Result (Unit {0}) Stop → Type 0
  by k e v w asked r = Updates o (pairs.element_of e) v w asked r

  abbrev Kept : ℕ → PortValue → Solo → Type 0
  Kept = KeptIn stays neither v0 May list (KeepsPair o)

  abbrev gives : (k : ℕ) (u w : PortValue) (asked : List Bool) (r : Result (Unit {0}) Stop) → fits k u w asked r → List LogLine
  gives = gives_none fits

  abbrev OwesP : PortValue → Solo → Type 0
  OwesP = OwesF stays neither v0 May

  lemmas : ListLemmas (plain_list (λ k e s. one e s)) list IsShown (FairFrom v0) OwesP Kept Kept fits gives (AreLines op)
  lemmas = list_lemmas stays neither v0 May may_on op list by (KeepsPair o) one fits (keeping foreign) (λ k e at. law foreign e) (λ k u w asked r f. pairs_came o list k u w asked r f) (λ e s. updates_keep s (own stays neither v0) o (pairs.element_of e) s (itself s)) fits_some

  abbrev Standing : List Line → Answered → ℕ → PortValue → Type 0
  Standing made b k v = ListStands (plain_list (λ k e s. one e s)) list IsShown (FairFrom v0) OwesP Kept Kept fits gives (AreLines op) made b k v

  -- no element logs a line
  none_did : (from : ℕ) (v : PortValue) (to : ℕ) (w : PortValue) (answers : List Bool) (did : DidItems fits (length list) from v to w answers) → gave_did (plain_list (λ k e s. one e s)) list IsShown (FairFrom v0) OwesP Kept Kept fits gives (AreLines op) from v to w answers did ≡ []
  none_did from v _ _ _ lists.DidItems.none = refl
  none_did from v _ _ _ (lists.DidItems.more k u w answers asked did fit less) = append-nil _ ∙ none_did from v k u answers did

  none_gave : (from : ℕ) (v : PortValue) (to : ℕ) (w : PortValue) (answers : List Bool) (r : Result (Unit {0}) Stop) (on : WorksOn fits (length list) from v to w answers r) → gave_on (plain_list (λ k e s. one e s)) list IsShown (FairFrom v0) OwesP Kept Kept fits gives (AreLines op) from v to w answers r on ≡ []
  none_gave from v _ _ _ _ (lists.WorksOn.all_done at) = refl
  none_gave from v _ _ _ _ (lists.WorksOn.last_done k u w answers asked did fit at) = append-nil _ ∙ none_did from v k u answers did
  none_gave from v _ _ _ _ (lists.WorksOn.due k u w answers asked did fit less) = append-nil _ ∙ none_did from v k u answers did
  none_gave from v _ _ _ _ (lists.WorksOn.stopped k u w answers asked e did fit less) = none_did from v k u answers did

  -- ---- the plain list
  owned_long : (s : Solo) (xs : List Pair) → 512 < length xs → owned_pairs (own stays neither v0) foreign xs s ≡ refused BatchLong s
  owned_long s [] more = absurd (omega (arith, more))
  owned_long s (x ∷ xs) more = let long : nat_lt 512 (length (x ∷ xs)) ≡ true = grind (arith, nat_tests) in rw long refl

  owned_few : (s : Solo) (xs : List Pair) (r : Option Refusal) → 0 < length xs → length xs ≤ 512 → refuse_owners (whose v0).machine (of_domains s) (whose v0).domain foreign ≡ r → owned_pairs (own stays neither v0) foreign xs s ≡ owned_by (own stays neither v0) foreign xs s r
  owned_few s [] r some few is = absurd (omega (arith, some))
  owned_few s (x ∷ xs) r some few is = let short : nat_lt 512 (length (x ∷ xs)) ≡ false = grind (arith, nat_tests) in rw (short, is) refl

  listed_few : (s : Solo) (xs : List Pair) → length xs ≤ 512 → listed one xs s ≡ in_order (λ k e s. one e s) xs 0 s
  listed_few s xs few = let short : nat_lt 512 (length xs) ≡ false = grind (arith, nat_tests) in rw short refl

  -- ---- what is left
  pub record PairsOn (at : Progress) (made : List LogLine) (v : PortValue) (b : Answered) : Type 0 where
    pub some : 0 < length list
    pub few : length list ≤ 512
    pub nothing : made ≡ []
    pub stands : Standing [] b at.done v

  abbrev pub PairsGoing : Progress → List LogLine → PortValue → Answered → Type 0
  PairsGoing at made v b = (Begins stays neither v0 made v b (owned_pairs (own stays neither v0) foreign list) × (at.done ≡ 0)) ⊎ PairsOn at made v b

  lower : (v : PortValue) (s : Solo) → OwesP v s → OwesT stays neither v0 v s
  lower v s e = record { ahead = record { came = e.ahead.came; good = e.ahead.good.0 }; owes = e.owes }

  answers_so : (made : List LogLine) (w : PortValue) (reply : Reply) (a b : Answered) → a ≡ b → made ≡ [] → a.lines ≡ [] → IsReply reply a.answer → OwesT stays neither v0 w a.left → IsTaskAnswered stays neither v0 op made w reply b
  answers_so made w reply a b is none lines replies owes =
      subst (IsTaskAnswered stays neither v0 op made w reply) is (record { lines = subst (λ ls. AreLines op ls a.lines) (sym none) (no_lines op a.lines lines); replies = replies; owes = owes })

  -- ---- the work of a turn, behind which the list has come so far
  ends_so : (to : Progress) (made : List LogLine) (w : PortValue) (b : Answered) (r : Result (Unit {0}) Stop) (new : List Line) → made ≡ [] → 0 < length list → length list ≤ 512 → new ≡ [] →
      ListComes (plain_list (λ k e s. one e s)) list IsShown (FairFrom v0) OwesP Kept Kept fits gives (AreLines op) ([] ++ new) b to.done w r → Comes stays neither v0 (λ to made w. PairsGoing to made w b) op to made w b (valued r)
  unfolding plain_list
  ends_so to made w b (Ok done) new none some few bare (t, is, owes) =
      answers_so made w (reply_of to.done 0 None) (answered to.done 0 None new t) b (sym is) none bare (record { done = refl; value = refl; refusal = tt }) (lower w t owes)
  ends_so to made w b (Err (Refused x)) new none some few bare (t, y, is, why, owes) =
      answers_so made w (reply_of to.done 0 (Some x)) (answered to.done 0 (Some y) new t) b (sym is) none bare (record { done = refl; value = refl; refusal = why }) (lower w t owes)
  ends_so to made w b (Err (Paused p)) new none some few bare (t, comes, left) =
      inr (record { some = some; few = few; nothing = none; stands = (t, subst (λ ls. logged_behind ls (in_order (λ k e s. one e s) (drop to.done list) to.done t) ≡ b) bare comes, left) })

  no_new : (gave : List LogLine) (new : List Line) → gave ≡ [] → AreLines op gave new → new ≡ []
  no_new [] [] none said = refl
  no_new [] (y ∷ new) none said = absurd said
  no_new (x ∷ gave) new none said = absurd cc

  list_work : (at to : Progress) (made : List LogLine) (u w : PortValue) (b : Answered) (answers : List Bool) (r : Result (Unit {0}) Stop) (from : ℕ) → made ≡ [] → 0 < length list → length list ≤ 512 → (on : WorksOn fits (length list) from u to.done w answers r) → FairFrom v0 w → (FairFrom v0 u → Standing [] b from u) →
      Comes stays neither v0 (λ to made w. PairsGoing to made w b) op to made w b (valued r)
  list_work at to made u w b answers r from none some few on fair stands =
      let k = list_comes (plain_list (λ k e s. one e s)) list IsShown (FairFrom v0) OwesP Kept Kept fits gives (AreLines op) lemmas [] b from u to.done w answers r on fair stands in
      ends_so to made w b r k.0 none some few (no_new _ k.0 (none_gave from u to.done w answers r on) k.1) k.2

  -- ---- whose they are is read first
  begun_stands : (v u : PortValue) (s : Solo) (b : Answered) → OwesT stays neither v0 v s → owned_pairs (own stays neither v0) foreign list s ≡ b → 0 < length list → length list ≤ 512 → (x : Owners) → FindsOwners v u (whose v0).domain foreign (Ok x) → (x ≡ o) × Standing [] b 0 u
  unfolding plain_list
  begun_stands v u s b owes is some few x finds =
      let post = came_post v0 v owes.ahead.came in
      let stands = stands_in stays neither v s owes.owes in
      let low = subst (λ (p : Post). (whose v0).domain < length p.machine.page_limit) (sym post) real in
      let had = found_had v u s stands (whose v0).domain foreign low x finds in
      let none : refuse_owners (whose v0).machine (of_domains s) (whose v0).domain foreign ≡ None = subst (λ (p : Post). refuse_owners p.machine (of_domains s) (whose v0).domain foreign ≡ None) post had.0 in
      let alike = owners_alike v u s stands (whose v0).domain foreign low (Ok x) finds in (
        had.1,
        (
          s,
          sym (owned_few s list None some few none ∙ listed_few s list few) ∙ is,
          inl (record { ahead = record { came = came_trans v0 v u owes.ahead.came alike.came; good = (owes.ahead.good, none) }; owes = owes_on stays v u s alike owes.owes }),
        ),
      )

  refused_so : (at to : Progress) (made : List LogLine) (v w : PortValue) (s : Solo) (b : Answered) (x : Refusal) → OwesT stays neither v0 v s → made ≡ [] → to.done ≡ 0 → owned_pairs (own stays neither v0) foreign list s ≡ b → 0 < length list → length list ≤ 512 → FindsOwners v w (whose v0).domain foreign (Err x) →
      IsTaskAnswered stays neither v0 op made w (reply_of to.done 0 (Some x)) b
  refused_so at to made v w s b x owes none at0 is some few finds =
      let post = came_post v0 v owes.ahead.came in
      let stands = stands_in stays neither v s owes.owes in
      let low = subst (λ (p : Post). (whose v0).domain < length p.machine.page_limit) (sym post) real in
      let no = found_none v w s stands (whose v0).domain foreign low x finds in
      let alike = owners_alike v w s stands (whose v0).domain foreign low (Err x) finds in
      answers_so made w (reply_of to.done 0 (Some x)) (refused x s) b
      (sym (owned_few s list (Some x) some few (subst (λ (p : Post). refuse_owners p.machine (of_domains s) (whose v0).domain foreign ≡ Some x) post no)) ∙ is) none refl
      (record { done = at0; value = refl; refusal = (refl, tt) })
      (record { ahead = record { came = came_trans v0 v w owes.ahead.came alike.came; good = owes.ahead.good }; owes = owes_on stays v w s alike owes.owes })

  -- behind steps that change nothing
  stands_along : (made : List Line) (b : Answered) (k : ℕ) (v u : PortValue) (x : Owners) → FindsOwners v u (whose v0).domain foreign (Ok x) → Standing made b k v → Standing made b k u
  stands_along made b k v u x finds (s, comes, inl owes) =
      let post = came_post v0 v owes.ahead.came in
      let alike = owners_alike v u s (stands_in stays neither v s owes.owes) (whose v0).domain foreign (subst (λ (p : Post). (whose v0).domain < length p.machine.page_limit) (sym post) real) (Ok x) finds in
      (s, comes, inl (record { ahead = record { came = came_trans v0 v u owes.ahead.came alike.came; good = owes.ahead.good }; owes = owes_on stays v u s alike owes.owes }))
  stands_along made b k v u x finds (s, comes, inr kept) =
      let post = came_post v0 v kept.ahead.came in
      let keeps = keeping foreign kept.element in
      let alike = owners_alike v u s (keeps.stands v s kept.kept) (whose v0).domain foreign (subst (λ (p : Post). (whose v0).domain < length p.machine.page_limit) (sym post) real) (Ok x) finds in
      (s, comes, inr (record { ahead = record { came = came_trans v0 v u kept.ahead.came alike.came; good = kept.ahead.good }; element = kept.element; at = kept.at; kept = keeps.goes_on v u s alike kept.kept }))

  had_same : (v u : PortValue) (k : ℕ) (made : List Line) (b : Answered) (x : Owners) → FindsOwners v u (whose v0).domain foreign (Ok x) → Standing made b k v → x ≡ o
  had_same v u k made b x finds (s, comes, inl owes) =
      let post = came_post v0 v owes.ahead.came in
      (found_had v u s (stands_in stays neither v s owes.owes) (whose v0).domain foreign (subst (λ (p : Post). (whose v0).domain < length p.machine.page_limit) (sym post) real) x finds).1
  had_same v u k made b x finds (s, comes, inr kept) =
      let post = came_post v0 v kept.ahead.came in
      (found_had v u s ((keeping foreign kept.element).stands v s kept.kept) (whose v0).domain foreign (subst (λ (p : Post). (whose v0).domain < length p.machine.page_limit) (sym post) real) x finds).1

  never_unowned : (v w : PortValue) (k : ℕ) (made : List Line) (b : Answered) (x : Refusal) → FindsOwners v w (whose v0).domain foreign (Err x) → Standing made b k v → ⊥
  never_unowned v w k made b x finds (s, comes, inl owes) =
      let post = came_post v0 v owes.ahead.came in
      let no = found_none v w s (stands_in stays neither v s owes.owes) (whose v0).domain foreign (subst (λ (p : Post). (whose v0).domain < length p.machine.page_limit) (sym post) real) x finds in
      let e = sym (subst (λ (p : Post). refuse_owners p.machine (of_domains s) (whose v0).domain foreign ≡ Some x) post no) ∙ owes.ahead.good.1 in cc
  never_unowned v w k made b x finds (s, comes, inr kept) =
      let post = came_post v0 v kept.ahead.came in
      let no = found_none v w s ((keeping foreign kept.element).stands v s kept.kept) (whose v0).domain foreign (subst (λ (p : Post). (whose v0).domain < length p.machine.page_limit) (sym post) real) x finds in
      let e = sym (subst (λ (p : Post). refuse_owners p.machine (of_domains s) (whose v0).domain foreign ≡ Some x) post no) ∙ kept.ahead.good.1 in cc

  -- ---- the whole
  no_pairs : (xs : List Pair) (s : Solo) → length xs ≡ 0 → answered 0 0 None [] s ≡ owned_pairs (own stays neither v0) foreign xs s
  no_pairs [] s empty = refl
  no_pairs (x ∷ xs) s empty = absurd (omega arith)

  on_to : (to : Progress) (from last : ℕ) (u w : PortValue) (x : Owners) (answers : List Bool) (r : Result (Unit {0}) Stop) → to.done ≡ last → x ≡ o → WorksOn (PairFits x list) (length list) from u last w answers r → WorksOn fits (length list) from u to.done w answers r
  on_to to from last u w x answers r there same on =
      subst (λ k. WorksOn fits (length list) from u k w answers r) (sym there) (subst (λ y. WorksOn (PairFits y list) (length list) from u last w answers r) same on)

  long_so : (to : Progress) (made : List LogLine) (v w : PortValue) (s : Solo) (b : Answered) → 512 < length list → w ≡ v → to.done ≡ 0 → OwesT stays neither v0 v s → made ≡ [] → owned_pairs (own stays neither v0) foreign list s ≡ b → IsTaskAnswered stays neither v0 op made w (reply_of to.done 0 (Some BatchLong)) b
  long_so to made v w s b more same at0 owes none is =
      answers_so made w (reply_of to.done 0 (Some BatchLong)) (refused BatchLong s) b (sym (owned_long s list more) ∙ is) none refl (record { done = at0; value = refl; refusal = (refl, tt) }) (subst (λ y. OwesT stays neither v0 y s) (sym same) owes)

  nothing_so : (to : Progress) (made : List LogLine) (v : PortValue) (s : Solo) (b : Answered) → length list ≡ 0 → to.done ≡ 0 → OwesT stays neither v0 v s → made ≡ [] → owned_pairs (own stays neither v0) foreign list s ≡ b → IsTaskAnswered stays neither v0 op made v (reply_of to.done 0 None) b
  nothing_so to made v s b empty at0 owes none is =
      answers_so made v (reply_of to.done 0 None) (answered 0 0 None [] s) b (no_pairs list s empty ∙ is) none refl (record { done = at0; value = refl; refusal = tt }) owes

  pub pairs_work : (at to : Progress) (made : List LogLine) (v w : PortValue) (b : Answered) (answers : List Bool) (r : Result (Unit {0}) Stop) (from last : ℕ) → at.done ≡ from → to.done ≡ last → WorksOwned (whose v0).domain foreign list v from last w answers r → FairFrom v0 w → PairsGoing at made v b →
      Comes stays neither v0 (λ to made w. PairsGoing to made w b) op to made w b (valued r)
  pairs_work at to made v _ b _ _ from _ is there (owning.WorksOwned.long last w answers answer more whole) fair (inl g) =
      subst (λ y. Comes stays neither v0 (λ to made w. PairsGoing to made w b) op to made w b (valued y)) (sym whole.refused) (long_so to made v w g.0.value b more whole.no_step (there ∙ whole.none) g.0.owes g.0.nothing g.0.is)
  pairs_work at to made v _ b _ _ from _ is there (owning.WorksOwned.long last w answers answer more whole) fair (inr g) = absurd (let few = g.few in omega arith)
  pairs_work at to made v _ b _ _ from _ is there (owning.WorksOwned.none empty) fair (inl g) = nothing_so to made v g.0.value b empty (there ∙ (sym is ∙ g.1)) g.0.owes g.0.nothing g.0.is
  pairs_work at to made v _ b _ _ from _ is there (owning.WorksOwned.none empty) fair (inr g) = absurd (let some = g.some in omega arith)
  pairs_work at to made v _ b _ _ from _ is there (owning.WorksOwned.unowned w x some few finds) fair (inl g) = refused_so at to made v w g.0.value b x g.0.owes g.0.nothing (there ∙ (sym is ∙ g.1)) g.0.is some few finds
  pairs_work at to made v _ b _ _ from _ is there (owning.WorksOwned.unowned w x some few finds) fair (inr g) = absurd (never_unowned v w at.done [] b x finds g.stands)
  pairs_work at to made v _ b _ _ from _ is there (owning.WorksOwned.owned last u w x answers answer some few finds on) fair (inl g) =
      let k = begun_stands v u g.0.value b g.0.owes g.0.is some few x finds in
      list_work at to made u w b answers answer from g.0.nothing some few (on_to to from last u w x answers answer there k.0 on) fair (λ f. subst (λ j. Standing [] b j u) (sym (sym is ∙ g.1)) k.1)
  pairs_work at to made v _ b _ _ from _ is there (owning.WorksOwned.owned last u w x answers answer some few finds on) fair (inr g) =
      list_work at to made u w b answers answer from g.nothing some few (on_to to from last u w x answers answer there (had_same v u at.done [] b x finds g.stands) on) fair (λ f. subst (λ j. Standing [] b j u) is (stands_along [] b at.done v u x finds g.stands))
