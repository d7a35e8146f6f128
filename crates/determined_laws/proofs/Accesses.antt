-- A guest's load and store are determined, too: by the own translations and by the words that they find.
use Rattle.std.proofs.Common.{◌≡◌, ℕ, ◌-◌, Bool, true, false, List, [], ◌∷◌, ◌++◌, Option, Some, None, Result, Ok, Err, refl, sym, ap, ◌∙◌, subst, inl, inr}
use Rattle.xp_words.specs.Entries.{frame_of}
use Rattle.xp_words.specs.declared.place.Place.TheVariants.{Cell}
use Rattle.xp_words.specs.declared.reply.Refusal.{Refusal}
use Rattle.xp_words.specs.declared.reply.Refusal.TheVariants.{ReadOnly}
use Rattle.xp_words.specs.declared.reply.Stop.{Stop}
use Rattle.xp_words.specs.declared.reply.Stop.TheVariants.{Refused}
use Rattle.xp_board.specs.declared.step.Act.{Act}
use Rattle.xp_board.specs.declared.step.Act.TheVariants.{Load, Store}
use Rattle.xp_board.specs.declared.step.Item.{Item}
use Rattle.xp_board.specs.declared.step.StepKind.TheVariants as kinds
use Rattle.xp_board.specs.Told.{PortValue}
use Rattle.step_maker.specs.Visits.{Does, Only, Then, Visit, visit_as}
use Rattle.tlb_walks.specs.Accesses as ways
use Rattle.tlb_walks.specs.Accesses.{GuestReads, GuestWrites}
use Rattle.tlb_walks.specs.Addresses.{cell_index}
use Rattle.tlb_walks.specs.Walks.{WalkBy}
use Rattle.tlb_walks.specs.declared.walks.Walked.{Walked}
use Rattle.determined_laws.specs.Courses.{Alike}
use Rattle.determined_laws.specs.Forks.{Tie}
use Rattle.determined_laws.proofs.Courses.{alike_does}
use Rattle.determined_laws.proofs.Ties.{forks_newer, swapped, tie_lists, tie_map, tie_one, tie_then, some_refusal}
use Rattle.determined_laws.proofs.Walks.{walk_tie}

-- ---- the lists of two ways from one port
pub both_made : (v w x : PortValue) (P Q : List Visit → Type 0) (E : Type 0) → Does v w P → Does v x Q → ((us vs : List Visit) → P us → Q vs → Tie us vs E) → Alike v w x E
both_made v w x P Q E a b tie = alike_does a b tie

some_item : (x y : Item) → ◌≡◌ {A = Option Item} (Some x) (Some y) → x ≡ y
some_item x y e = cc

apart : {A B : Type 0} {x : A} {o : Option A} → o ≡ Some x → o ≡ None → B
apart some none = absurd (let e = sym some ∙ none in cc)

-- ---- what a guest does at one cell
abbrev at_cell : ℕ → ℕ → Act → ℕ → Visit
at_cell f i act word = visit_as kinds.Guest (Cell f i) act word

module _ (v : PortValue) (user : Bool) (va : ℕ) (write : Bool) where
  abbrev Walks : Result Walked Stop → List Visit → Type 0
  Walks a vs = WalkBy v.post.machine v.post.vcpu user va write a vs

  walks_tie : (a b : Result Walked Stop) (us vs : List Visit) → Walks a us → Walks b vs → Tie us vs (a ≡ b)
  walks_tie a b us vs p q = walk_tie v.post.machine va write a b v.post.vcpu user us vs p q

  stop_same : (e g : Stop) → ◌≡◌ {A = Result Walked Stop} (Err e) (Err g) → e ≡ g
  stop_same e g s = cc

  walked_same : (r s : Walked) → ◌≡◌ {A = Result Walked Stop} (Ok r) (Ok s) → r ≡ s
  walked_same r s e = cc

  -- the one walk stops, and the other goes on to the cell
  short : (e : Stop) (r : Walked) (us vs : List Visit) (act : Act) (x : ℕ) (E : Type 0) → Walks (Err e) us → Then (Walks (Ok r)) (Only (at_cell (frame_of r.entry) (cell_index va) act x)) vs → Tie us vs E
  short e r us vs act x E p q = tie_lists us vs _ _ _ refl q.list (by (walks_tie (Err e) (Ok r) us q.before p q.first))
    where
      by : Tie us q.before (◌≡◌ {A = Result Walked Stop} (Err e) (Ok r)) → Tie us (q.after ++ q.before) E
      by (inl f) = inl (forks_newer us q.before [] q.after f)
      by (inr s) = absurd (let t = s.1 in cc)

  turned : (us vs : List Visit) (E F : Type 0) → Tie us vs E → (E → F) → Tie vs us F
  turned us vs E F (inl f) g = inl (swapped us vs f)
  turned us vs E F (inr s) g = inr (sym s.0, g s.1)

  same_cell : (r s : Walked) (act : Act) (x y : ℕ) → r ≡ s → Tie (at_cell (frame_of r.entry) (cell_index va) act x ∷ []) (at_cell (frame_of s.entry) (cell_index va) act y ∷ []) (x ≡ y)
  same_cell r s act x y e =
      subst (λ (k : Walked). Tie (at_cell (frame_of r.entry) (cell_index va) act x ∷ []) (at_cell (frame_of k.entry) (cell_index va) act y ∷ []) (x ≡ y)) e (tie_one _ (Cell (frame_of r.entry) (cell_index va)) act None x y)

  through : (r s : Walked) (us vs : List Visit) (act : Act) (x y : ℕ) → Then (Walks (Ok r)) (Only (at_cell (frame_of r.entry) (cell_index va) act x)) us →
      Then (Walks (Ok s)) (Only (at_cell (frame_of s.entry) (cell_index va) act y)) vs → Tie us vs (x ≡ y)
  through r s us vs act x y p q =
      tie_lists us vs _ _ _ p.list q.list
      (tie_then p.before q.before p.after q.after (◌≡◌ {A = Result Walked Stop} (Ok r) (Ok s)) (x ≡ y) (walks_tie (Ok r) (Ok s) p.before q.before p.first q.first)
      (λ e same. tie_lists p.after q.after _ _ _ p.next q.next (same_cell r s act x y (walked_same r s same))))

  cached_cell : (i j : Item) (act : Act) (x y : ℕ) (us vs : List Visit) → i ≡ j → Only (at_cell i.frame (cell_index va) act x) us → Only (at_cell j.frame (cell_index va) act y) vs → Tie us vs (x ≡ y)
  cached_cell i j act x y us vs e p q =
      tie_lists us vs _ _ _ p q
      (subst (λ (k : Item). Tie (at_cell i.frame (cell_index va) act x ∷ []) (at_cell k.frame (cell_index va) act y ∷ []) (x ≡ y)) e (tie_one _ (Cell i.frame (cell_index va)) act None x y))

-- ---- a load
pub reads_tie : (v w x : PortValue) (user : Bool) (va : ℕ) (a b : Result ℕ Stop) → GuestReads v w user va a → GuestReads v x user va b → Alike v w x (a ≡ b)
reads_tie v w x user va _ _ (ways.GuestReads.barred r is steps same) (ways.GuestReads.barred s also more still) =
    both_made v w x _ _ _ steps more (λ us vs p q. inr (p ∙ sym q, ap (λ z. Err (Refused z)) (some_refusal r s (sym is ∙ also))))
reads_tie v w x user va _ _ (ways.GuestReads.barred r is steps same) (ways.GuestReads.cached i word may has more still) = apart is may
reads_tie v w x user va _ _ (ways.GuestReads.barred r is steps same) (ways.GuestReads.stopped e may none more still) = apart is may
reads_tie v w x user va _ _ (ways.GuestReads.barred r is steps same) (ways.GuestReads.walked k word may none more to) = apart is may
reads_tie v w x user va _ _ (ways.GuestReads.cached i word may has steps same) (ways.GuestReads.barred s also more still) = apart also may
reads_tie v w x user va _ _ (ways.GuestReads.cached i word may has steps same) (ways.GuestReads.cached j other might had more still) =
    both_made v w x _ _ _ steps more (λ us vs p q. tie_map us vs _ _ (cached_cell v user va false i j Load word other us vs (some_item i j (sym has ∙ had)) p q) (λ z. ap (λ k. Ok k) z))
reads_tie v w x user va _ _ (ways.GuestReads.cached i word may has steps same) (ways.GuestReads.stopped e might none more still) = apart has none
reads_tie v w x user va _ _ (ways.GuestReads.cached i word may has steps same) (ways.GuestReads.walked k other might none more to) = apart has none
reads_tie v w x user va _ _ (ways.GuestReads.stopped e may none steps same) (ways.GuestReads.barred s also more still) = apart also may
reads_tie v w x user va _ _ (ways.GuestReads.stopped e may none steps same) (ways.GuestReads.cached j other might had more still) = apart had none
reads_tie v w x user va _ _ (ways.GuestReads.stopped e may none steps same) (ways.GuestReads.stopped g might nor more still) =
    both_made v w x _ _ _ steps more (λ us vs p q. tie_map us vs _ _ (walks_tie v user va false (Err e) (Err g) us vs p q) (λ z. ap (λ k. Err k) (stop_same v user va false e g z)))
reads_tie v w x user va _ _ (ways.GuestReads.stopped e may none steps same) (ways.GuestReads.walked k other might nor more to) =
    both_made v w x _ _ _ steps more (λ us vs p q. short v user va false e k us vs Load other _ p q)
reads_tie v w x user va _ _ (ways.GuestReads.walked r word may none steps to) (ways.GuestReads.barred s also more still) = apart also may
reads_tie v w x user va _ _ (ways.GuestReads.walked r word may none steps to) (ways.GuestReads.cached j other might had more still) = apart had none
reads_tie v w x user va _ _ (ways.GuestReads.walked r word may none steps to) (ways.GuestReads.stopped g might nor more still) =
    both_made v w x _ _ _ steps more (λ us vs p q. turned v user va false vs us ⊥ _ (short v user va false g r vs us Load word ⊥ q p) (λ z. absurd z))
reads_tie v w x user va _ _ (ways.GuestReads.walked r word may none steps to) (ways.GuestReads.walked k other might nor more too) =
    both_made v w x _ _ _ steps more (λ us vs p q. tie_map us vs _ _ (through v user va false r k us vs Load word other p q) (λ z. ap (λ k. Ok k) z))

-- ---- a store
barrier_same : (r s : Walked) (e g : ℕ) → r ≡ s → r.barrier ≡ Some e → s.barrier ≡ Some g → e ≡ g
barrier_same r s e g same one other = some_number e g (sym one ∙ (ap (λ (k : Walked). k.barrier) same ∙ other))
  where
    some_number : (e g : ℕ) → ◌≡◌ {A = Option ℕ} (Some e) (Some g) → e ≡ g
    some_number e g s = cc

barrier_apart : {A : Type 0} (r s : Walked) (e : ℕ) → r ≡ s → r.barrier ≡ Some e → s.barrier ≡ None → A
barrier_apart r s e same some none = apart some (ap (λ (k : Walked). k.barrier) same ∙ none)

abbrev pub Done : Type 0
Done = Result (Unit {0}) Stop

module _ (v w x : PortValue) (user : Bool) (va val : ℕ) where
  abbrev pub Both : Done → Done → Type 0
  Both a b = Alike v w x (a ≡ b)

  -- one that only walks, beside one that goes on to the cell
  ends_before : (r s : Walked) (us vs : List Visit) (y : ℕ) (E : Type 0) → (r ≡ s → ⊥) → Walks v user va true (Ok r) us → Then (Walks v user va true (Ok s)) (Only (at_cell (frame_of s.entry) (cell_index va) (Store val) y)) vs → Tie us vs E
  ends_before r s us vs y E off p q = tie_lists us vs _ _ _ refl q.list (by (walks_tie v user va true (Ok r) (Ok s) us q.before p q.first))
    where
      by : Tie us q.before (◌≡◌ {A = Result Walked Stop} (Ok r) (Ok s)) → Tie us (q.after ++ q.before) E
      by (inl f) = inl (forks_newer us q.before [] q.after f)
      by (inr s') = absurd (off (walked_same v user va true r s s'.1))

  stop_done : (e : Stop) (r : Walked) (us vs : List Visit) (E : Type 0) → Walks v user va true (Err e) us → Walks v user va true (Ok r) vs → Tie us vs E
  stop_done e r us vs E p q = tie_map us vs _ _ (walks_tie v user va true (Err e) (Ok r) us vs p q) (λ s. absurd cc)

  other_way : (us vs : List Visit) (E : Type 0) → Tie vs us ⊥ → Tie us vs E
  other_way us vs E t = turned v user va true vs us ⊥ E t (λ z. absurd z)

  pub writes_tie : (a b : Done) → GuestWrites v w user va val a → GuestWrites v x user va val b → Both a b
  writes_tie _ _ (ways.GuestWrites.barred r is steps same) (ways.GuestWrites.barred s also more still) =
      both_made v w x _ _ _ steps more (λ us vs p q. inr (p ∙ sym q, ap (λ z. Err (Refused z)) (some_refusal r s (sym is ∙ also))))
  writes_tie _ _ (ways.GuestWrites.barred r is steps same) (ways.GuestWrites.cached i found may has more still) = apart is may
  writes_tie _ _ (ways.GuestWrites.barred r is steps same) (ways.GuestWrites.stopped e may none more still) = apart is may
  writes_tie _ _ (ways.GuestWrites.barred r is steps same) (ways.GuestWrites.read_only k e may none bar more to) = apart is may
  writes_tie _ _ (ways.GuestWrites.barred r is steps same) (ways.GuestWrites.walked k found may none free more to) = apart is may
  writes_tie _ _ (ways.GuestWrites.cached i found may has steps same) (ways.GuestWrites.barred s also more still) = apart also may
  writes_tie _ _ (ways.GuestWrites.cached i found may has steps same) (ways.GuestWrites.cached j other might had more still) =
      both_made v w x _ _ _ steps more (λ us vs p q. tie_map us vs _ _ (cached_cell v user va true i j (Store val) found other us vs (some_item i j (sym has ∙ had)) p q) (λ z. refl))
  writes_tie _ _ (ways.GuestWrites.cached i found may has steps same) (ways.GuestWrites.stopped e might none more still) = apart has none
  writes_tie _ _ (ways.GuestWrites.cached i found may has steps same) (ways.GuestWrites.read_only k e might none bar more to) = apart has none
  writes_tie _ _ (ways.GuestWrites.cached i found may has steps same) (ways.GuestWrites.walked k other might none free more to) = apart has none
  writes_tie _ _ (ways.GuestWrites.stopped e may none steps same) (ways.GuestWrites.barred s also more still) = apart also may
  writes_tie _ _ (ways.GuestWrites.stopped e may none steps same) (ways.GuestWrites.cached j other might had more still) = apart had none
  writes_tie _ _ (ways.GuestWrites.stopped e may none steps same) (ways.GuestWrites.stopped g might nor more still) =
      both_made v w x _ _ _ steps more (λ us vs p q. tie_map us vs _ _ (walks_tie v user va true (Err e) (Err g) us vs p q) (λ z. ap (λ k. Err k) (stop_same v user va true e g z)))
  writes_tie _ _ (ways.GuestWrites.stopped e may none steps same) (ways.GuestWrites.read_only k g might nor bar more to) = both_made v w x _ _ _ steps more (λ us vs p q. stop_done e k us vs _ p q)
  writes_tie _ _ (ways.GuestWrites.stopped e may none steps same) (ways.GuestWrites.walked k other might nor free more to) =
      both_made v w x _ _ _ steps more (λ us vs p q. short v user va true e k us vs (Store val) other _ p q)
  writes_tie _ _ (ways.GuestWrites.read_only r e may none bar steps to) (ways.GuestWrites.barred s also more still) = apart also may
  writes_tie _ _ (ways.GuestWrites.read_only r e may none bar steps to) (ways.GuestWrites.cached j other might had more still) = apart had none
  writes_tie _ _ (ways.GuestWrites.read_only r e may none bar steps to) (ways.GuestWrites.stopped g might nor more still) =
      both_made v w x _ _ _ steps more (λ us vs p q. other_way us vs _ (stop_done g r vs us ⊥ q p))
  writes_tie _ _ (ways.GuestWrites.read_only r e may none bar steps to) (ways.GuestWrites.read_only k g might nor also more too) =
      both_made v w x _ _ _ steps more
      (λ us vs p q. tie_map us vs _ _ (walks_tie v user va true (Ok r) (Ok k) us vs p q) (λ z. ap (λ n. Err (Refused (ReadOnly n))) (barrier_same r k e g (walked_same v user va true r k z) bar also)))
  writes_tie _ _ (ways.GuestWrites.read_only r e may none bar steps to) (ways.GuestWrites.walked k other might nor free more too) =
      both_made v w x _ _ _ steps more (λ us vs p q. ends_before r k us vs other _ (λ z. barrier_apart r k e z bar free) p q)
  writes_tie _ _ (ways.GuestWrites.walked r found may none free steps to) (ways.GuestWrites.barred s also more still) = apart also may
  writes_tie _ _ (ways.GuestWrites.walked r found may none free steps to) (ways.GuestWrites.cached j other might had more still) = apart had none
  writes_tie _ _ (ways.GuestWrites.walked r found may none free steps to) (ways.GuestWrites.stopped g might nor more still) =
      both_made v w x _ _ _ steps more (λ us vs p q. other_way us vs _ (short v user va true g r vs us (Store val) found ⊥ q p))
  writes_tie _ _ (ways.GuestWrites.walked r found may none free steps to) (ways.GuestWrites.read_only k g might nor bar more too) =
      both_made v w x _ _ _ steps more (λ us vs p q. other_way us vs _ (ends_before k r vs us found ⊥ (λ z. barrier_apart k r g z bar free) q p))
  writes_tie _ _ (ways.GuestWrites.walked r found may none free steps to) (ways.GuestWrites.walked k other might nor also more too) =
      both_made v w x _ _ _ steps more (λ us vs p q. tie_map us vs _ _ (through v user va true r k us vs (Store val) found other p q) (λ z. refl))
