-- Where a call takes no pages, its vCPU claims no frame; so each machine-to-physical word that it stores is a deed.
use Rattle.std.proofs.Common.{◌≡◌, ℕ, zero, suc, ◌-◌, ◌==◌, Bool, true, false, if◌then◌else◌, List, [], ◌∷◌, length, Option, Some, None, nat_lt, not, ◌+◌, refl, ap}
use Rattle.xp_words.specs.Machine.{Machine}
use Rattle.xp_words.specs.RefWords.{ref_read}
use Rattle.xp_words.specs.KindWords.{kind_fields}
use Rattle.xp_words.specs.Entries.{frame_of, is_bit}
use Rattle.xp_words.specs.declared.entry.Demand.{Demand}
use Rattle.xp_words.specs.declared.entry.Demand.TheVariants.{Nothing, Bad, Read, Typed}
use Rattle.xp_words.specs.declared.kind.KindWord.{KindWord}
use Rattle.xp_words.specs.declared.place.Place.{Place}
use Rattle.xp_words.specs.declared.place.Place.TheVariants.{Clock, Pages, Life, Vcpu, Refs, Kind, M2p, Cell, Map, Priv}
use Rattle.xp_words.specs.declared.refs.RefWord.{RefWord}
use Rattle.xp_words.specs.declared.refs.RefWord.TheVariants.{Free, Owned, Dying}
use Rattle.xp_board.specs.declared.holdings.Claimed.{Claimed}
use Rattle.xp_board.specs.declared.holdings.Holdings.{Holdings}
use Rattle.xp_board.specs.declared.holdings.Lock.{Lock}
use Rattle.xp_board.specs.declared.holdings.Walk.{Walk}
use Rattle.xp_board.specs.declared.holdings.Work.{Work}
use Rattle.xp_board.specs.declared.step.Act.{Act}
use Rattle.xp_board.specs.declared.step.Act.TheVariants.{Load, Cas, Store, Add, Max}
use Rattle.xp_board.specs.declared.step.Mark.{Mark}
use Rattle.xp_board.specs.declared.step.Mark.TheVariants as marks
use Rattle.xp_board.specs.declared.step.StepKind.{StepKind}
use Rattle.xp_board.specs.declared.step.StepKind.TheVariants as steps
use Rattle.xp_board.specs.Acts.{left_by}
use Rattle.xp_board.specs.After.{after_act, after_move, learned, learned_claim, learned_own}
use Rattle.xp_board.specs.CellSteps.{after_cell, exchanged}
use Rattle.xp_board.specs.ContextSteps.{after_context, named_in, named_out}
use Rattle.xp_board.specs.FillSteps.{after_fill, cached_with, descended, is_for_write, item_of, level_of, loaded, started, touched, walked_by, walked_on}
use Rattle.xp_board.specs.KindSteps.{Form, KindRow, after_form, after_kind, after_kind_add, after_kind_cas, after_kind_row, after_kind_store, as_typed, kind_row, still_looking}
use Rattle.xp_board.specs.KindSteps as forms
use Rattle.xp_board.specs.Lists.{changed_by, kept_of, with_more, without_by}
use Rattle.xp_board.specs.Hands.{lock_on}
use Rattle.xp_board.specs.Marks.{after_mark, demand_seen, recorded, shed}
use Rattle.xp_board.specs.Readings.{is_free, is_free_in, is_context}
use Rattle.xp_board.specs.RefSteps.{RefRow, after_ref, after_ref_row, after_ref_store, ref_row}
use Rattle.xp_board.specs.RefSteps as rows
use Rattle.xp_board.specs.RunSteps.{after_run}
use Rattle.xp_board.specs.Settling.{demand_in, demand_out}
use Rattle.xp_board.specs.TouchSteps.{after_touch, touched_by}
use Rattle.xp_board.specs.PagesSteps.{after_pages}
use Rattle.xp_board.specs.HintSteps.{after_hint}
use Rattle.xp_board.specs.AckSteps.{after_ack}

abbrev pub IsUnclaimed : Holdings → Type 0
IsUnclaimed h = h.claimed ≡ []

either : (b : Bool) (x y : Holdings) → IsUnclaimed x → IsUnclaimed y → IsUnclaimed (if b then x else y)
either true x y a e = a
either false x y a e = e

-- ---- marks
goes_out : (d : Demand) (h : Holdings) → IsUnclaimed h → IsUnclaimed (demand_out d h)
goes_out Nothing h e = e
goes_out Bad h e = e
goes_out (Read g) h e = e
goes_out (Typed g t) h e = e

comes_in : (sure : Bool) (d : Demand) (h : Holdings) → IsUnclaimed h → IsUnclaimed (demand_in sure d h)
comes_in sure Nothing h e = e
comes_in sure Bad h e = e
comes_in sure (Read g) h e = e
comes_in sure (Typed g t) h e = e

by_record : (n : Machine) (f : ℕ) (o : Option Work) (h : Holdings) → IsUnclaimed h → IsUnclaimed (recorded n f o h)
by_record n f None h e = e
by_record n f (Some x) h e = goes_out (demand_seen x.recorded x) _ e

by_shed : (n : Machine) (f upto : ℕ) (o : Option Work) (h : Holdings) → IsUnclaimed h → IsUnclaimed (shed n f upto o h)
by_shed n f upto None h e = e
by_shed n f upto (Some x) h e = comes_in _ (demand_seen upto x) _ e

by_mark : (n : Machine) (mark : Option Mark) (h : Holdings) → IsUnclaimed h → IsUnclaimed (after_mark n mark h)
by_mark n None h e = e
by_mark n (Some (marks.Record f upto)) h e = by_record n f _ h e
by_mark n (Some (marks.Shed f upto)) h e = by_shed n f upto _ h e
by_mark n (Some (marks.Forget page)) h e = e
by_mark n (Some (marks.Cut call)) h e = e
by_mark n (Some marks.Turn) h e = e
by_mark n (Some (marks.Walk write)) h e = e

-- ---- kind words
by_kind_row : (r : KindRow) (f : ℕ) (k l : KindWord) (new : ℕ) (h : Holdings) → IsUnclaimed h → IsUnclaimed (after_kind_row r f k l new h)
by_kind_row forms.Count f k l new h e = e
by_kind_row forms.Locks f k l new h e = e
by_kind_row forms.Pin f k l new h e = e
by_kind_row forms.Unpin f k l new h e = e
by_kind_row forms.Resume f k l new h e = e
by_kind_row forms.TakeBack f k l new h e = e
by_kind_row forms.Begin f k l new h e = e

by_form : (o : Form) (n : Machine) (s f : ℕ) (x : Work) (l : KindWord) (new : ℕ) (h : Holdings) → IsUnclaimed h → IsUnclaimed (after_form o n s f x l new h)
by_form forms.Live n s f x l new h e = either _ _ _ e e
by_form forms.Partial n s f x l new h e = either _ _ _ e e
by_form forms.InWork n s f x l new h e = e
by_form forms.Dead n s f x l new h e = either _ _ _ e e

by_kind_store : (n : Machine) (s f new : ℕ) (o : Option Work) (h : Holdings) → IsUnclaimed h → IsUnclaimed (after_kind_store n s f new o h)
by_kind_store n s f new (Some x) h e = by_form (forms.form_of (kind_fields new)) n s f x (kind_fields new) new h e
by_kind_store n s f new None h e = e

by_kind : (n : Machine) (s f : ℕ) (a : Act) (w : ℕ) (h : Holdings) → IsUnclaimed h → IsUnclaimed (after_kind n s (Kind f) a w h)
by_kind n s f (Cas x new) w h e = either (w == x) (after_kind_row (kind_row (kind_fields x) (kind_fields new)) f (kind_fields x) (kind_fields new) new (record h { looking = still_looking f new h.looking })) (record h { looking = still_looking f w h.looking }) (by_kind_row (kind_row (kind_fields x) (kind_fields new)) f (kind_fields x) (kind_fields new) new (record h { looking = still_looking f new h.looking }) e) e
by_kind n s f (Add by) w h e = either _ _ _ e e
by_kind n s f (Store new) w h e = by_kind_store n s f new _ h e
by_kind n s f Load w h e = e
by_kind n s f (Max x) w h e = e

-- ---- reference words
-- not the row by which a free frame is claimed
not_claim : (o : Option RefWord) (new : Option RefWord) (e : ℕ) → ref_read e ≡ o → is_free e ≡ false → ref_row o new ≡ rows.Claim → ⊥
unfolding is_free
not_claim (Some (Free stamp)) new e is off row = absurd (let k = ap (λ r. is_free_in r) is in cc)
not_claim (Some (Owned owner true count)) (Some (Owned other false number)) e is off row = absurd cc
not_claim (Some (Owned owner true count)) (Some (Owned other true number)) e is off row = absurd cc
not_claim (Some (Owned owner true count)) (Some (Free stamp)) e is off row = absurd cc
not_claim (Some (Owned owner true count)) (Some (Dying other)) e is off row = absurd cc
not_claim (Some (Owned owner true count)) None e is off row = absurd cc
not_claim (Some (Owned owner false count)) new e is off row = absurd cc
not_claim (Some (Dying owner)) new e is off row = absurd cc
not_claim None new e is off row = absurd cc

by_ref_row : (r : RefRow) (n : Machine) (s f w : ℕ) (h : Holdings) → (r ≡ rows.Claim → ⊥) → IsUnclaimed h → IsUnclaimed (after_ref_row r n s f w h)
by_ref_row rows.Raise n s f w h off e = e
by_ref_row rows.Clear n s f w h off e = e
by_ref_row rows.Claim n s f w h off e = absurd (off refl)
by_ref_row rows.NoRefRow n s f w h off e = e

none_without : (f : ℕ) (xs : List Claimed) → xs ≡ [] → without_by (λ x. x.frame) f xs ≡ []
unfolding without_by
none_without f xs e = rw e refl

by_ref_store : (o : Option RefWord) (n : Machine) (s f : ℕ) (h : Holdings) → IsUnclaimed h → IsUnclaimed (after_ref_store o n s f h)
by_ref_store (Some (Free stamp)) n s f h e = none_without f h.claimed e
by_ref_store (Some (Owned owner allocated count)) n s f h e = none_without f h.claimed e
by_ref_store (Some (Dying owner)) n s f h e = none_without f h.claimed e
by_ref_store None n s f h e = none_without f h.claimed e

-- where the frame was free, an exchange is none that the call may make
abbrev pub TakesNoFree : Act → Type 0
TakesNoFree (Cas x new) = is_free x ≡ false
TakesNoFree a = Unit {0}

by_ref : (n : Machine) (s f : ℕ) (a : Act) (w : ℕ) (h : Holdings) → TakesNoFree a → IsUnclaimed h → IsUnclaimed (after_ref n s (Refs f) a w h)
by_ref n s f (Cas x new) w h off e = either (w == x) _ _ (by_ref_row (ref_row (ref_read x) (ref_read new)) n s f w h (not_claim (ref_read x) (ref_read new) x refl off) e) e
by_ref n s f (Add by) w h off e = e
by_ref n s f (Store new) w h off e = by_ref_store (ref_read new) n s f h e
by_ref n s f Load w h off e = e
by_ref n s f (Max x) w h off e = e

-- ---- all others
by_cell_entry : (i new w : ℕ) (o : Option Lock) (h : Holdings) → IsUnclaimed h → IsUnclaimed (exchanged i new w o h)
by_cell_entry i new w (Some x) h e = either _ _ _ e (comes_in true _ _ (goes_out _ h e))
by_cell_entry i new w None h e = e

by_name_out : (x : ℕ) (h : Holdings) → IsUnclaimed h → IsUnclaimed (named_out x h)
by_name_out zero h e = e
by_name_out (suc f) h e = e

by_name : (k x : ℕ) (h : Holdings) → IsUnclaimed h → IsUnclaimed (named_in k x h)
by_name k zero h e = e
by_name k (suc f) h e = e

by_start : (k w : ℕ) (write : Bool) (h : Holdings) → IsUnclaimed h → IsUnclaimed (started k w write h)
by_start k w write h e = either (w == 0) _ _ e e

by_descent : (n : Machine) (x : Walk) (w : ℕ) (h : Holdings) → IsUnclaimed h → IsUnclaimed (descended n x w h)
by_descent n x w h e =
    let next = record h { walk = Some (record x { reached = record { table = frame_of w; level = level_of x - 1 } ∷ x.reached; touching = None }) } in
    let last = record h { walk = None; cache = cached_with (item_of x w) h.cache } in
    either (not (nat_lt (frame_of w) n.frames)) (record h { walk = None }) (if level_of x == 1 then last else next) e (either (level_of x == 1) last next e e)

by_load : (n : Machine) (f i w : ℕ) (x : Walk) (h : Holdings) → IsUnclaimed h → IsUnclaimed (loaded n f i w x h)
by_load n f i w x h e =
    let on = record h { walk = Some (record x { touching = Some (record { frame = f; index = i; word = w }) }) } in
    either (not (is_bit 0 w)) (record h { walk = None }) (if touched x w == w then descended n x w h else on) e (either (touched x w == w) (descended n x w h) on (by_descent n x w h e) e)

by_walk : (n : Machine) (f i w : ℕ) (o : Option Walk) (h : Holdings) → IsUnclaimed h → IsUnclaimed (walked_on n f i w o h)
by_walk n f i w (Some x) h e = by_load n f i w (walked_by i w x) h e
by_walk n f i w None h e = e

by_touch : (n : Machine) (met : Bool) (new : ℕ) (o : Option Walk) (h : Holdings) → IsUnclaimed h → IsUnclaimed (touched_by n met new o h)
by_touch n true new (Some x) h e = by_descent n x new h e
by_touch n false new (Some x) h e = e
by_touch n met new None h e = e

by_cell : (p : Place) (a : Act) (w : ℕ) (h : Holdings) → IsUnclaimed h → IsUnclaimed (after_cell p a w h)
by_cell (Cell f i) (Store new) w h e = by_cell_entry i new w (lock_on f h.locks) h e
by_cell (Cell f i) (Cas x new) w h e = either (w == x) (exchanged i new w (lock_on f h.locks) h) h (by_cell_entry i new w (lock_on f h.locks) h e) e
by_cell _ a w h e = e

by_context : (p : Place) (a : Act) (w : ℕ) (h : Holdings) → IsUnclaimed h → IsUnclaimed (after_context p a w h)
by_context (Vcpu v k) (Store new) w h e = either (is_context k) (named_in k w (named_out new h)) h (by_name k w (named_out new h) (by_name_out new h e)) e
by_context _ a w h e = e

by_fill : (n : Machine) (p : Place) (mark : Option Mark) (w : ℕ) (h : Holdings) → IsUnclaimed h → IsUnclaimed (after_fill n p mark w h)
by_fill n (Vcpu v k) mark w h e = by_start k w (is_for_write mark) h e
by_fill n (Cell f i) mark w h e = by_walk n f i w h.walk h e
by_fill n _ mark w h e = e

by_touched : (n : Machine) (p : Place) (a : Act) (w : ℕ) (h : Holdings) → IsUnclaimed h → IsUnclaimed (after_touch n p a w h)
by_touched n (Cell f i) (Cas x new) w h e = by_touch n (w == x) new h.walk h e
by_touched n _ a w h e = e

by_pages : (p : Place) (a : Act) (w : ℕ) (h : Holdings) → IsUnclaimed h → IsUnclaimed (after_pages p a w h)
by_pages (Pages d) (Cas x new) w h e = either (w == x) (record h { credits = with_more (new - x) d h.credits }) h e e
by_pages (Pages d) (Add by) w h e = e
by_pages _ a w h e = e

by_hint : (p : Place) (a : Act) (h : Holdings) → IsUnclaimed h → IsUnclaimed (after_hint p a h)
by_hint (Map k) (Add by) h e = e
by_hint _ a h e = e

by_run : (a : Act) (h : Holdings) → IsUnclaimed h → IsUnclaimed (after_run a h)
by_run (Store new) h e = either (new == 0) (record h { cold = true; ran = length h.steps + 1 }) (record h { cache = []; ran = length h.steps + 1 }) e e
by_run _ h e = e

by_kind_at : (n : Machine) (s : ℕ) (p : Place) (a : Act) (w : ℕ) (h : Holdings) → IsUnclaimed h → IsUnclaimed (after_kind n s p a w h)
by_kind_at n s (Kind f) a w h e = by_kind n s f a w h e
by_kind_at n s _ a w h e = e

abbrev pub TakesNoFreeAt : Place → Act → Type 0
TakesNoFreeAt p a = (f : ℕ) → p ≡ Refs f → TakesNoFree a

by_ref_at : (n : Machine) (s : ℕ) (p : Place) (a : Act) (w : ℕ) (h : Holdings) → TakesNoFreeAt p a → IsUnclaimed h → IsUnclaimed (after_ref n s p a w h)
by_ref_at n s (Refs f) a w h off e = by_ref n s f a w h (off f refl) e
by_ref_at n s _ a w h off e = e

by_act : (n : Machine) (s : ℕ) (p : Place) (a : Act) (by : StepKind) (mark : Option Mark) (w : ℕ) (h : Holdings) → TakesNoFreeAt p a → IsUnclaimed h → IsUnclaimed (after_act n s p a by mark w h)
by_act n s p a steps.Look mark w h off e = e
by_act n s p a steps.Ref mark w h off e = by_ref_at n s p a w h off e
by_act n s p a steps.Kind mark w h off e = by_kind_at n s p a w h e
by_act n s p a steps.Cell mark w h off e = by_cell p a w h e
by_act n s p a steps.M2p mark w h off e = e
by_act n s p a steps.Pages mark w h off e = by_pages p a w h e
by_act n s p a steps.Context mark w h off e = by_context p a w h e
by_act n s p a steps.Fill mark w h off e = by_fill n p mark w h e
by_act n s p a steps.Guest mark w h off e = e
by_act n s p a steps.Tick mark w h off e = e
by_act n s p a steps.Ask mark w h off e = e
by_act n s p a steps.Ack mark w h off e = e
by_act n s p a steps.Life mark w h off e = e
by_act n s p a steps.Run mark w h off e = by_run a h e
by_act n s p a steps.Hint mark w h off e = by_hint p a h e
by_act n s p a steps.Touch mark w h off e = by_touched n p a w h e
by_act n s p a steps.Priv mark w h off e = e

none_changed : (f : ℕ) (change : Claimed → Claimed) (xs : List Claimed) → xs ≡ [] → changed_by (λ x. x.frame) f change xs ≡ []
unfolding changed_by
none_changed f change xs e = rw e refl

by_own : (k w : ℕ) (h : Holdings) → IsUnclaimed h → IsUnclaimed (learned_own k w h)
by_own k w h e =
    let last = if k == 6 then (record h { run = Some w }) else h in
    let second = if k == 3 then (record h { old1 = Some w }) else last in
    either (k == 2) (record h { old0 = Some w }) second e (either (k == 3) (record h { old1 = Some w }) last e (either (k == 6) (record h { run = Some w }) h e e))

by_learning : (s : ℕ) (p : Place) (found left : ℕ) (h : Holdings) → IsUnclaimed h → IsUnclaimed (learned s p found left h)
by_learning s (Cell f i) found left h e = none_changed f (learned_claim i left) h.claimed e
by_learning s (Vcpu v k) found left h e = either (v == s) (learned_own k left h) h (by_own k left h e) e
by_learning s (Life d) found left h e = either (found == 0) (record h { looking = kept_of (λ x. not (x.owner == d)) h.looking }) h e e
by_learning s _ found left h e = e

pub by_move : (n : Machine) (s : ℕ) (h : Holdings) (p : Place) (a : Act) (by : StepKind) (mark : Option Mark) (found : ℕ) → TakesNoFreeAt p a → IsUnclaimed h → IsUnclaimed (after_move n s h p a by mark found)
by_move n s h p a by mark found off e = by_learning s p found (left_by a found) _ (by_act n s p a by mark found (after_mark n mark h) off (by_mark n mark h e))
