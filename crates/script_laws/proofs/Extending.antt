-- Lists of `mmuext_op` that go on from turn to turn.
use Rattle.std.proofs.Common.{◌≡◌, ◌⊎◌, ℕ, ◌<◌, ◌≤◌, nat_lt, Bool, true, false, List, [], ◌∷◌, ◌++◌, length, Option, Some, None, Result, Ok, Err, refl, sym, ap, ◌∙◌, subst, inl, inr, arith}
use Rattle.std.proofs.lemmas.Bool.Decides.{nat_tests}
use Rattle.std.proofs.lemmas.List.{append-nil}
use Rattle.std.specs.Prelude.{drop, slice_get}
use Rattle.xp_words.specs.declared.ops.ExtOp.{ExtOp}
use Rattle.xp_words.specs.declared.reply.LogLine.{LogLine}
use Rattle.xp_words.specs.declared.reply.Refusal.TheVariants.{BatchLong}
use Rattle.xp_words.specs.declared.reply.Reply.{Reply}
use Rattle.xp_words.specs.declared.reply.Stop.{Stop}
use Rattle.xp_words.specs.declared.reply.Stop.TheVariants.{Refused, Paused}
use Rattle.xp_board.specs.Told.{PortValue}
use Rattle.mmuext_ops.specs.Elements.{ext_element}
use Rattle.course_laws.proofs.Awaiting.{AloneStays, NeitherLostNorBusy}
use Rattle.script_law.specs.Elements.{ext_alone}
use Rattle.script_law.specs.Scripts.{Answered, answered, in_order, listed, logged_behind, refused}
use Rattle.script_law.specs.Values.{Line, Outcome, Solo}
use Rattle.solo_ports.specs.Standing.{whose}
use Rattle.vcpu_turn.specs.Cpus.{reply_of}
use Rattle.vcpu_turn.specs.Ext.{ExtFits, FitsExt, Performs, awaited_for}
use Rattle.vcpu_turn.specs.Lists.{DidItems, Fitting, WorksOn, WorksThrough}
use Rattle.vcpu_turn.specs.Lists as lists
use Rattle.vcpu_turn.specs.Settling.{SettlesFirst}
use Rattle.vcpu_turn.specs.Working.{valued}
use Rattle.vcpu_turn.specs.declared.cpu.Progress.{Progress}
use Rattle.vcpu_turn.proofs.Hindering.{exts_came}
use Rattle.script_laws.specs.Logged.{AreLines, IsReply, IsShown}
use Rattle.script_laws.proofs.Items.{IsKeeping, LawOf}
use Rattle.script_laws.proofs.Listed.{KeptIn, gives_none, list_lemmas, no_lines, plain_list}
use Rattle.script_laws.proofs.Lists.{ListComes, ListLemmas, gave_did, gave_on, list_comes}
use Rattle.script_laws.proofs.Premises.{FairFrom}
use Rattle.script_laws.proofs.Tasks.{Begins, Comes, IsTaskAnswered, Lives, OwesT, own}
use Rattle.script_laws.proofs.Untouched.{SameDomains, itself, performs_keep}

pub lives_on : (v0 : PortValue) (s t : Solo) → SameDomains s t → s.lives (whose v0).domain ≡ 0 → t.lives (whose v0).domain ≡ 0
lives_on v0 s t same e = ap (λ (l : ℕ → ℕ). l (whose v0).domain) same.lives ∙ e

module _ (stays : AloneStays) (neither : NeitherLostNorBusy) (v0 : PortValue) (KeepsExt : ExtOp → PortValue → Solo → Type 0) (keeping : (e : ExtOp) → IsKeeping stays neither v0 (Lives stays neither v0) (KeepsExt e))
    (law : (e : ExtOp) (awaited : Option ℕ) → LawOf stays neither v0 (Lives stays neither v0) (λ v w asked r. Performs (whose v0).domain (ext_element e) awaited v w asked r) (KeepsExt e) (ext_alone (own stays neither v0) e)) (op : ℕ) (list : List ExtOp) where
  abbrev pub one : ExtOp → Solo → Outcome
  one e s = ext_alone (own stays neither v0) e s

  abbrev pub OwesE : PortValue → Solo → Type 0
  OwesE = OwesT stays neither v0

  abbrev pub Kept : ℕ → PortValue → Solo → Type 0
  Kept = KeptIn stays neither v0 (Lives stays neither v0) list KeepsExt

  -- ---- what is left
  pub record ExtOn (at : Progress) (made : List LogLine) (v : PortValue) (b : Answered) : Type 0 where
    pub few : length list ≤ 512
    pub nothing : made ≡ []
    pub value : Solo
    pub comes : logged_behind [] (in_order (λ k e s. one e s) (drop at.done list) at.done value) ≡ b
    pub pending : OwesE v value ⊎ Kept at.done v value

  abbrev pub ExtGoing : Progress → List LogLine → PortValue → Answered → Type 0
  ExtGoing at made v b = (Begins stays neither v0 made v b (listed one list) × (at.done ≡ 0)) ⊎ ExtOn at made v b

  answers_so : (made : List LogLine) (w : PortValue) (reply : Reply) (a b : Answered) → a ≡ b → made ≡ [] → a.lines ≡ [] → IsReply reply a.answer → OwesE w a.left → IsTaskAnswered stays neither v0 op made w reply b
  answers_so made w reply a b is none lines replies owes =
      subst (IsTaskAnswered stays neither v0 op made w reply) is (record { lines = subst (λ ls. AreLines op ls a.lines) (sym none) (no_lines op a.lines lines); replies = replies; owes = owes })

  listed_long : (s : Solo) → 512 < length list → listed one list s ≡ refused BatchLong s
  listed_long s more = let long : nat_lt 512 (length list) ≡ true = grind (arith, nat_tests) in rw long refl

  listed_few : (s : Solo) → length list ≤ 512 → listed one list s ≡ in_order (λ k e s. one e s) list 0 s
  listed_few s few = let short : nat_lt 512 (length list) ≡ false = grind (arith, nat_tests) in rw short refl

  module _ (from : ℕ) (awaited : Option ℕ) where
    abbrev fits : Fitting
    fits = ExtFits (whose v0).domain list from awaited

    abbrev by : ℕ → ExtOp → PortValue → PortValue → List Bool → Result (Unit {0}) Stop → Type 0
    by k e v w asked r = Performs (whose v0).domain (ext_element e) (awaited_for from awaited k) v w asked r

    fits_some : (k : ℕ) (e : ExtOp) (u w : PortValue) (asked : List Bool) (r : Result (Unit {0}) Stop) → slice_get list k ≡ Some e → fits k u w asked r → SettlesFirst (by k e) u w asked r
    fits_some k e u w asked r at f = subst (λ x. FitsExt (whose v0).domain (awaited_for from awaited k) x u w asked r) at f

    abbrev gives : (k : ℕ) (u w : PortValue) (asked : List Bool) (r : Result (Unit {0}) Stop) → fits k u w asked r → List LogLine
    gives = gives_none fits

    lemmas : ListLemmas (plain_list (λ k e s. one e s)) list IsShown (FairFrom v0) OwesE Kept Kept fits gives (AreLines op)
    lemmas =
        list_lemmas stays neither v0 (Lives stays neither v0) (lives_on v0) op list by KeepsExt one fits keeping (λ k e at. law e (awaited_for from awaited k)) (λ k u w asked r f. exts_came (whose v0).domain list from awaited k u w asked r f)
        (λ e s. performs_keep s (own stays neither v0) (ext_element e) s (itself s)) fits_some

    none_did : (first : ℕ) (v : PortValue) (to : ℕ) (w : PortValue) (answers : List Bool) (did : DidItems fits (length list) first v to w answers) → gave_did (plain_list (λ k e s. one e s)) list IsShown (FairFrom v0) OwesE Kept Kept fits gives (AreLines op) first v to w answers did ≡ []
    none_did first v _ _ _ lists.DidItems.none = refl
    none_did first v _ _ _ (lists.DidItems.more k u w answers asked did fit less) = append-nil _ ∙ none_did first v k u answers did

    none_gave : (first : ℕ) (v : PortValue) (to : ℕ) (w : PortValue) (answers : List Bool) (r : Result (Unit {0}) Stop) (on : WorksOn fits (length list) first v to w answers r) → gave_on (plain_list (λ k e s. one e s)) list IsShown (FairFrom v0) OwesE Kept Kept fits gives (AreLines op) first v to w answers r on ≡ []
    none_gave first v _ _ _ _ (lists.WorksOn.all_done at) = refl
    none_gave first v _ _ _ _ (lists.WorksOn.last_done k u w answers asked did fit at) = append-nil _ ∙ none_did first v k u answers did
    none_gave first v _ _ _ _ (lists.WorksOn.due k u w answers asked did fit less) = append-nil _ ∙ none_did first v k u answers did
    none_gave first v _ _ _ _ (lists.WorksOn.stopped k u w answers asked e did fit less) = none_did first v k u answers did

    no_new : (gave : List LogLine) (new : List Line) → gave ≡ [] → AreLines op gave new → new ≡ []
    no_new [] [] none said = refl
    no_new [] (y ∷ new) none said = absurd said
    no_new (x ∷ gave) new none said = absurd cc

    -- ---- the work of a turn
    ends_so : (to : Progress) (made : List LogLine) (w : PortValue) (b : Answered) (r : Result (Unit {0}) Stop) (new : List Line) → made ≡ [] → length list ≤ 512 → new ≡ [] →
        ListComes (plain_list (λ k e s. one e s)) list IsShown (FairFrom v0) OwesE Kept Kept fits gives (AreLines op) ([] ++ new) b to.done w r → Comes stays neither v0 (λ to made w. ExtGoing to made w b) op to made w b (valued r)
    unfolding plain_list
    ends_so to made w b (Ok done) new none few bare (t, is, owes) =
        answers_so made w (reply_of to.done 0 None) (answered to.done 0 None new t) b (sym is) none bare (record { done = refl; value = refl; refusal = tt }) owes
    ends_so to made w b (Err (Refused x)) new none few bare (t, y, is, why, owes) =
        answers_so made w (reply_of to.done 0 (Some x)) (answered to.done 0 (Some y) new t) b (sym is) none bare (record { done = refl; value = refl; refusal = why }) owes
    ends_so to made w b (Err (Paused p)) new none few bare (t, comes, left) =
        inr (record { few = few; nothing = none; value = t; comes = subst (λ ls. logged_behind ls (in_order (λ k e s. one e s) (drop to.done list) to.done t) ≡ b) bare comes; pending = left })

    list_work : (to : Progress) (made : List LogLine) (v w : PortValue) (b : Answered) (answers : List Bool) (r : Result (Unit {0}) Stop) → made ≡ [] → length list ≤ 512 → (on : WorksOn fits (length list) from v to.done w answers r) → FairFrom v0 w → (t : Solo) → logged_behind [] (in_order (λ k e s. one e s) (drop from list) from t) ≡ b → OwesE v t ⊎ Kept from v t →
        Comes stays neither v0 (λ to made w. ExtGoing to made w b) op to made w b (valued r)
    unfolding plain_list
    list_work to made v w b answers r none few on fair t comes pending =
        let k = list_comes (plain_list (λ k e s. one e s)) list IsShown (FairFrom v0) OwesE Kept Kept fits gives (AreLines op) lemmas [] b from v to.done w answers r on fair (λ f. (t, comes, pending)) in
        ends_so to made w b r k.0 none few (no_new _ k.0 (none_gave from v to.done w answers r on) k.1) k.2

    whole_so : (to : Progress) (made : List LogLine) (v w : PortValue) (b : Answered) (r : Result (Unit {0}) Stop) (g : Begins stays neither v0 made v b (listed one list)) → 512 < length list → w ≡ v → to.done ≡ 0 → r ≡ Err (Refused BatchLong) → Comes stays neither v0 (λ to made w. ExtGoing to made w b) op to made w b (valued r)
    whole_so to made v w b r g more same at0 is =
        subst (λ y. Comes stays neither v0 (λ to made w. ExtGoing to made w b) op to made w b (valued y)) (sym is)
        (answers_so made w (reply_of to.done 0 (Some BatchLong)) (refused BatchLong g.value) b (sym (listed_long g.value more) ∙ g.is) g.nothing refl (record { done = at0; value = refl; refusal = (refl, tt) }) (subst (λ y. OwesE y g.value) (sym same) g.owes))

    pub ext_work : (at to : Progress) (made : List LogLine) (v w : PortValue) (b : Answered) (answers : List Bool) (r : Result (Unit {0}) Stop) → at.done ≡ from → WorksThrough fits (length list) v from to.done w answers r → FairFrom v0 w → ExtGoing at made v b →
        Comes stays neither v0 (λ to made w. ExtGoing to made w b) op to made w b (valued r)
    ext_work at to made v w b answers r is (inl (more, whole)) fair (inl g) = whole_so to made v w b r g.0 more whole.no_step whole.none whole.refused
    ext_work at to made v w b answers r is (inl (more, whole)) fair (inr g) = absurd (let few = g.few in omega arith)
    ext_work at to made v w b answers r is (inr (few, on)) fair (inl g) =
        let first : from ≡ 0 = sym is ∙ g.1 in
        list_work to made v w b answers r g.0.nothing few on fair g.0.value (subst (λ k. in_order (λ k e s. one e s) (drop k list) k g.0.value ≡ b) (sym first) (sym (listed_few g.0.value few) ∙ g.0.is)) (inl g.0.owes)
    ext_work at to made v w b answers r is (inr (few, on)) fair (inr g) =
        list_work to made v w b answers r g.nothing few on fair g.value (subst (λ k. in_order (λ k e s. one e s) (drop k list) k g.value ≡ b) is g.comes) (subst (λ k. OwesE v g.value ⊎ Kept k v g.value) is g.pending)
