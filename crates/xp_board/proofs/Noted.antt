-- What every step leaves alone of a hand: its list of steps, to which it is added; and its translations and walk, unless it is a step of those.
use Rattle.std.proofs.Common.{◌≡◌, ℕ, zero, suc, ◌==◌, not, nat_lt, if◌then◌else◌, Bool, true, false, List, Option, Some, None, refl, ap, ◌∙◌}
use Rattle.xp_board.specs.declared.holdings.Made.{Made}
use Rattle.xp_words.specs.declared.kind.KindWord.{KindWord}
use Rattle.xp_words.specs.declared.refs.RefWord.{RefWord}
use Rattle.xp_words.specs.declared.refs.RefWord.TheVariants.{Free}
use Rattle.xp_words.specs.KindWords.{kind_fields}
use Rattle.xp_words.specs.Machine.{Machine}
use Rattle.xp_words.specs.declared.place.Place.{Place}
use Rattle.xp_words.specs.declared.place.Place.TheVariants.{Clock, Pages, Life, Vcpu, Refs, Kind, M2p, Cell, Map, Priv}
use Rattle.xp_board.specs.declared.step.Act.{Act}
use Rattle.xp_board.specs.declared.step.Act.TheVariants.{Cas, Store, Add}
use Rattle.xp_board.specs.declared.step.Mark.{Mark}
use Rattle.xp_board.specs.declared.step.Mark.TheVariants as marks
use Rattle.xp_board.specs.declared.step.StepKind.{StepKind}
use Rattle.xp_board.specs.declared.step.StepKind.TheVariants as steps
use Rattle.xp_board.specs.declared.holdings.Lock.{Lock}
use Rattle.xp_board.specs.declared.holdings.Work.{Work}
use Rattle.xp_board.specs.declared.holdings.Holdings.{Holdings}
use Rattle.xp_board.specs.Acts.{left_by}
use Rattle.xp_board.specs.After.{learned, after_act, after_move}
use Rattle.xp_board.specs.CellSteps.{keeps_demand, exchanged, after_cell}
use Rattle.xp_board.specs.ContextSteps.{after_context, named_out}
use Rattle.xp_board.specs.Hands.{work_on, lock_on}
use Rattle.xp_board.specs.HintSteps.{after_hint}
use Rattle.xp_board.specs.KindSteps.{KindRow, Count, Locks, Pin, Unpin, Resume, TakeBack, Begin, Form, Live, Partial, InWork, Dead, form_of, kind_row, after_kind_row, still_looking, after_form, after_kind_store, after_kind}
use Rattle.xp_words.specs.Entries.{is_bit, frame_of}
use Rattle.xp_board.specs.declared.holdings.Walk.{Walk}
use Rattle.xp_board.specs.FillSteps as fill
use Rattle.xp_board.specs.TouchSteps as touch
use Rattle.xp_board.specs.Marks.{after_mark, recorded, shed}
use Rattle.xp_board.specs.PagesSteps.{after_pages}
use Rattle.xp_board.specs.Readings.{is_context}
use Rattle.xp_board.specs.RefSteps.{RefRow, Raise, Clear, Claim, NoRefRow, after_ref_row, after_ref_store, after_ref}
use Rattle.xp_board.specs.RunSteps.{after_run}
use Rattle.xp_board.specs.declared.step.Item.{Item}
use Rattle.xp_words.specs.declared.entry.Demand.{Demand}
use Rattle.xp_words.specs.declared.entry.Demand.TheVariants as demands
use Rattle.xp_board.specs.Settling.{demand_in, demand_out}
use Rattle.xp_board.specs.ContextSteps.{named_in}
use Rattle.xp_board.specs.After.{learned_own}

-- ---- the parts of a hand that most acts leave alone
pub record Parts : Type 0 where
  pub steps : List Made
  pub cache : List Item
  pub walk : Option Walk
  pub cold : Bool
  pub ran : ℕ

abbrev pub parts : Holdings → Parts
parts h = record { steps = h.steps; cache = h.cache; walk = h.walk; cold = h.cold; ran = h.ran }

-- a hand with these parts
abbrev Bare : Parts → Holdings → Type 0
Bare q h = parts h ≡ q

either : (q : Parts) (b : Bool) (x y : Holdings) → Bare q x → Bare q y → Bare q (if b then x else y)
either q true x y a b = a
either q false x y a b = b

demand_out_bare : (q : Parts) (d : Demand) (h : Holdings) → Bare q h → Bare q (demand_out d h)
demand_out_bare q demands.Nothing h b = b
demand_out_bare q demands.Bad h b = b
demand_out_bare q (demands.Read g) h b = b
demand_out_bare q (demands.Typed g t) h b = b

demand_in_bare : (q : Parts) (sure : Bool) (d : Demand) (h : Holdings) → Bare q h → Bare q (demand_in sure d h)
demand_in_bare q sure demands.Nothing h b = b
demand_in_bare q sure demands.Bad h b = b
demand_in_bare q sure (demands.Read g) h b = b
demand_in_bare q sure (demands.Typed g t) h b = b

-- ---- what the word tells, and the mark
own_bare : (q : Parts) (k w : ℕ) (h : Holdings) → Bare q h → Bare q (learned_own k w h)
own_bare q k w h b = either q (k == 2) _ _ b (either q (k == 3) _ _ b (either q (k == 6) _ h b b))

learned_bare : (q : Parts) (s : ℕ) (p : Place) (found left : ℕ) (h : Holdings) → Bare q h → Bare q (learned s p found left h)
learned_bare q s Clock found left h b = b
learned_bare q s (Pages d) found left h b = b
learned_bare q s (Life d) found left h b = either q (found == 0) _ h b b
learned_bare q s (Vcpu v k) found left h b = either q (v == s) _ h (own_bare q k left h b) b
learned_bare q s (Refs f) found left h b = b
learned_bare q s (Kind f) found left h b = b
learned_bare q s (M2p f) found left h b = b
learned_bare q s (Cell f i) found left h b = b
learned_bare q s (Map k) found left h b = b
learned_bare q s (Priv d) found left h b = b

pub learned_aside : (s : ℕ) (p : Place) (found left : ℕ) (h : Holdings) → parts (learned s p found left h) ≡ parts h
learned_aside s p found left h = learned_bare (parts h) s p found left h refl

recorded_bare : (q : Parts) (n : Machine) (f : ℕ) (o : Option Work) (h : Holdings) → Bare q h → Bare q (recorded n f o h)
recorded_bare q n f (Some e) h b = demand_out_bare q _ _ b
recorded_bare q n f None h b = b

shed_bare : (q : Parts) (n : Machine) (f upto : ℕ) (o : Option Work) (h : Holdings) → Bare q h → Bare q (shed n f upto o h)
shed_bare q n f upto (Some e) h b = demand_in_bare q _ _ _ b
shed_bare q n f upto None h b = b

pub recorded_aside : (n : Machine) (f upto : ℕ) (h : Holdings) → parts (after_mark n (Some (marks.Record f upto)) h) ≡ parts h
recorded_aside n f upto h = recorded_bare (parts h) n f (work_on f h.works) h refl

pub shed_aside : (n : Machine) (f upto : ℕ) (h : Holdings) → parts (after_mark n (Some (marks.Shed f upto)) h) ≡ parts h
shed_aside n f upto h = shed_bare (parts h) n f upto (work_on f h.works) h refl

pub mark_steps : (n : Machine) (mark : Option Mark) (h : Holdings) → (after_mark n mark h).steps ≡ h.steps
mark_steps n None h = refl
mark_steps n (Some (marks.Record f upto)) h = ap (λ (q : Parts). q.steps) (recorded_aside n f upto h)
mark_steps n (Some (marks.Shed f upto)) h = ap (λ (q : Parts). q.steps) (shed_aside n f upto h)
mark_steps n (Some (marks.Forget page)) h = refl
mark_steps n (Some (marks.Cut call)) h = refl
mark_steps n (Some marks.Turn) h = refl
mark_steps n (Some (marks.Walk write)) h = refl

-- ---- the act, by kind
ref_row_bare : (q : Parts) (r : RefRow) (n : Machine) (s f w : ℕ) (h : Holdings) → Bare q h → Bare q (after_ref_row r n s f w h)
ref_row_bare q Raise n s f w h b = b
ref_row_bare q Clear n s f w h b = b
ref_row_bare q Claim n s f w h b = b
ref_row_bare q NoRefRow n s f w h b = b

ref_store_bare : (q : Parts) (o : Option RefWord) (n : Machine) (s f : ℕ) (h : Holdings) → Bare q h → Bare q (after_ref_store o n s f h)
ref_store_bare q (Some (Free stamp)) n s f h b = b
ref_store_bare q _ n s f h b = b

ref_bare : (q : Parts) (n : Machine) (s : ℕ) (p : Place) (a : Act) (w : ℕ) (h : Holdings) → Bare q h → Bare q (after_ref n s p a w h)
ref_bare q n s (Refs f) (Cas expected new) w h b = either q (w == expected) _ h (ref_row_bare q _ n s f w h b) b
ref_bare q n s (Refs f) (Add by) w h b = b
ref_bare q n s (Refs f) (Store new) w h b = ref_store_bare q _ n s f h b
ref_bare q n s _ _ w h b = b

kind_row_bare : (q : Parts) (r : KindRow) (f : ℕ) (k l : KindWord) (new : ℕ) (h : Holdings) → Bare q h → Bare q (after_kind_row r f k l new h)
kind_row_bare q Count f k l new h b = b
kind_row_bare q Locks f k l new h b = b
kind_row_bare q Pin f k l new h b = b
kind_row_bare q Unpin f k l new h b = b
kind_row_bare q Resume f k l new h b = b
kind_row_bare q TakeBack f k l new h b = b
kind_row_bare q Begin f k l new h b = b

form_bare : (q : Parts) (r : Form) (n : Machine) (s f : ℕ) (e : Work) (l : KindWord) (new : ℕ) (h : Holdings) → Bare q h → Bare q (after_form r n s f e l new h)
form_bare q Live n s f e l new h b = either q _ _ _ b b
form_bare q Partial n s f e l new h b = either q _ _ _ b b
form_bare q InWork n s f e l new h b = b
form_bare q Dead n s f e l new h b = either q _ _ _ b b

kind_store_bare : (q : Parts) (n : Machine) (s f new : ℕ) (o : Option Work) (h : Holdings) → Bare q h → Bare q (after_kind_store n s f new o h)
kind_store_bare q n s f new (Some e) h b = form_bare q (form_of (kind_fields new)) n s f e (kind_fields new) new h b
kind_store_bare q n s f new None h b = b

kind_bare : (q : Parts) (n : Machine) (s : ℕ) (p : Place) (a : Act) (w : ℕ) (h : Holdings) → Bare q h → Bare q (after_kind n s p a w h)
kind_bare q n s (Kind f) (Cas expected new) w h b =
    either q (w == expected) _ _ (kind_row_bare q (kind_row (kind_fields expected) (kind_fields new)) f _ _ new (record h { looking = still_looking f new h.looking }) b) b
kind_bare q n s (Kind f) (Add by) w h b = either q _ _ _ b b
kind_bare q n s (Kind f) (Store new) w h b = kind_store_bare q n s f new (work_on f h.works) h b
kind_bare q n s _ _ w h b = b

exchanged_bare : (q : Parts) (i new w : ℕ) (o : Option Lock) (h : Holdings) → Bare q h → Bare q (exchanged i new w o h)
exchanged_bare q i new w (Some e) h b = either q (keeps_demand e i new) h _ b (demand_in_bare q true _ _ (demand_out_bare q _ h b))
exchanged_bare q i new w None h b = b

cell_bare : (q : Parts) (p : Place) (a : Act) (w : ℕ) (h : Holdings) → Bare q h → Bare q (after_cell p a w h)
cell_bare q (Cell f i) (Store new) w h b = exchanged_bare q i new w (lock_on f h.locks) h b
cell_bare q (Cell f i) (Cas expected new) w h b = either q (w == expected) _ h (exchanged_bare q i new w (lock_on f h.locks) h b) b
cell_bare q _ _ w h b = b

pages_bare : (q : Parts) (p : Place) (a : Act) (w : ℕ) (h : Holdings) → Bare q h → Bare q (after_pages p a w h)
pages_bare q (Pages d) (Cas expected new) w h b = either q (w == expected) _ h b b
pages_bare q (Pages d) (Add by) w h b = b
pages_bare q _ _ w h b = b

named_out_bare : (q : Parts) (new : ℕ) (h : Holdings) → Bare q h → Bare q (named_out new h)
named_out_bare q zero h b = b
named_out_bare q (suc f) h b = b

named_in_bare : (q : Parts) (k w : ℕ) (h : Holdings) → Bare q h → Bare q (named_in k w h)
named_in_bare q k zero h b = b
named_in_bare q k (suc f) h b = b

context_bare : (q : Parts) (p : Place) (a : Act) (w : ℕ) (h : Holdings) → Bare q h → Bare q (after_context p a w h)
context_bare q (Vcpu v k) (Store new) w h b = either q (is_context k) _ h (named_in_bare q k w _ (named_out_bare q new h b)) b
context_bare q _ _ w h b = b

hint_bare : (q : Parts) (p : Place) (a : Act) (h : Holdings) → Bare q h → Bare q (after_hint p a h)
hint_bare q (Map k) (Add by) h b = b
hint_bare q _ _ h b = b

-- whether acts of that kind move translations or the walk in flight
abbrev pub moves_walk : StepKind → Bool
moves_walk steps.Fill = true
moves_walk steps.Touch = true
moves_walk steps.Ack = true
moves_walk steps.Run = true
moves_walk _ = false

pub act_aside : (n : Machine) (s : ℕ) (p : Place) (a : Act) (kind : StepKind) (mark : Option Mark) (w : ℕ) (h : Holdings) → moves_walk kind ≡ false → parts (after_act n s p a kind mark w h) ≡ parts h
act_aside n s p a steps.Look mark w h e = refl
act_aside n s p a steps.Ref mark w h e = ref_bare (parts h) n s p a w h refl
act_aside n s p a steps.Kind mark w h e = kind_bare (parts h) n s p a w h refl
act_aside n s p a steps.Cell mark w h e = cell_bare (parts h) p a w h refl
act_aside n s p a steps.M2p mark w h e = refl
act_aside n s p a steps.Pages mark w h e = pages_bare (parts h) p a w h refl
act_aside n s p a steps.Context mark w h e = context_bare (parts h) p a w h refl
act_aside n s p a steps.Fill mark w h e = absurd cc
act_aside n s p a steps.Guest mark w h e = refl
act_aside n s p a steps.Tick mark w h e = refl
act_aside n s p a steps.Ask mark w h e = refl
act_aside n s p a steps.Ack mark w h e = absurd cc
act_aside n s p a steps.Life mark w h e = refl
act_aside n s p a steps.Run mark w h e = absurd cc
act_aside n s p a steps.Hint mark w h e = hint_bare (parts h) p a h refl
act_aside n s p a steps.Touch mark w h e = absurd cc
act_aside n s p a steps.Priv mark w h e = refl

-- ---- steps are noted, whatever the act
either_steps : (t : Bool) (a b h : Holdings) → a.steps ≡ h.steps → b.steps ≡ h.steps → (if t then a else b).steps ≡ h.steps
either_steps true a b h x y = x
either_steps false a b h x y = y

run_steps : (a : Act) (h : Holdings) → (after_run a h).steps ≡ h.steps
run_steps (Store new) h = either_steps (new == 0) _ _ h refl refl
run_steps _ h = refl

below_steps : (n : Machine) (walk : Walk) (w : ℕ) (h : Holdings) → (fill.descended n walk w h).steps ≡ h.steps
below_steps n walk w h = either_steps (not (nat_lt (frame_of w) n.frames)) _ _ h refl (either_steps (fill.level_of walk == 1) _ _ h refl refl)

loaded_steps : (n : Machine) (f i w : ℕ) (walk : Walk) (h : Holdings) → (fill.loaded n f i w walk h).steps ≡ h.steps
loaded_steps n f i w walk h = either_steps (not (is_bit 0 w)) _ _ h refl (either_steps (fill.touched walk w == w) _ _ h (below_steps n walk w h) refl)

walked_steps : (n : Machine) (f i w : ℕ) (o : Option Walk) (h : Holdings) → (fill.walked_on n f i w o h).steps ≡ h.steps
walked_steps n f i w (Some walk) h = loaded_steps n f i w (fill.walked_by i w walk) h
walked_steps n f i w None h = refl

fill_steps : (n : Machine) (p : Place) (mark : Option Mark) (w : ℕ) (h : Holdings) → (fill.after_fill n p mark w h).steps ≡ h.steps
fill_steps n (Vcpu v k) mark w h = either_steps (w == 0) h _ h refl refl
fill_steps n (Cell f i) mark w h = walked_steps n f i w h.walk h
fill_steps n _ mark w h = refl

set_steps : (n : Machine) (met : Bool) (new : ℕ) (o : Option Walk) (h : Holdings) → (touch.touched_by n met new o h).steps ≡ h.steps
set_steps n true new (Some walk) h = below_steps n walk new h
set_steps n false new (Some walk) h = refl
set_steps n met new None h = refl

touch_steps : (n : Machine) (p : Place) (a : Act) (w : ℕ) (h : Holdings) → (touch.after_touch n p a w h).steps ≡ h.steps
touch_steps n (Cell f i) (Cas e x) w h = set_steps n (w == e) x h.walk h
touch_steps n _ _ w h = refl

walk_steps : (n : Machine) (s : ℕ) (p : Place) (a : Act) (kind : StepKind) (mark : Option Mark) (w : ℕ) (h : Holdings) (b : Bool) → moves_walk kind ≡ b →
    (after_act n s p a kind mark w h).steps ≡ h.steps
walk_steps n s p a kind mark w h false e = ap (λ (q : Parts). q.steps) (act_aside n s p a kind mark w h e)
walk_steps n s p a steps.Fill mark w h true e = fill_steps n p mark w h
walk_steps n s p a steps.Touch mark w h true e = touch_steps n p a w h
walk_steps n s p a steps.Ack mark w h true e = refl
walk_steps n s p a steps.Run mark w h true e = run_steps a h
walk_steps n s p a _ mark w h true e = absurd cc

pub move_steps : (n : Machine) (s : ℕ) (h : Holdings) (p : Place) (a : Act) (kind : StepKind) (mark : Option Mark) (w : ℕ) →
    (after_move n s h p a kind mark w).steps ≡ h.steps
move_steps n s h p a kind mark w =
    ap (λ (q : Parts). q.steps) (learned_aside s p w (left_by a w) (after_act n s p a kind mark w (after_mark n mark h)))
    ∙ walk_steps n s p a kind mark w (after_mark n mark h) (moves_walk kind) refl ∙ mark_steps n mark h
