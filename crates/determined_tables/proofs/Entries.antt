-- An entry that is taken, or looked at again, is determined by the words that are found.
use Rattle.std.proofs.Common.{◌≡◌, ◌⊎◌, ℕ, ◌+◌, ◌-◌, ◌<◌, ◌≤◌, Bool, true, false, List, [], length, Option, Some, None, Result, Ok, Err, refl, sym, ap, ◌∙◌, subst, inl, inr, arith}
use Rattle.xp_words.specs.Entries.{demand_at}
use Rattle.xp_words.specs.Machine.{Machine}
use Rattle.xp_words.specs.declared.entry.Demand.{Demand}
use Rattle.xp_words.specs.declared.entry.Demand.TheVariants as demands
use Rattle.xp_words.specs.declared.kind.PageType.{PageType}
use Rattle.xp_words.specs.declared.place.Place.TheVariants.{Cell, Clock, Kind}
use Rattle.xp_words.specs.declared.reply.Pause.TheVariants.{Flush}
use Rattle.xp_words.specs.declared.reply.Refusal.TheVariants as refusals
use Rattle.xp_words.specs.declared.reply.Stop.{Stop}
use Rattle.xp_words.specs.declared.reply.Stop.TheVariants.{Refused, Paused}
use Rattle.xp_board.specs.declared.step.Act.TheVariants.{Load}
use Rattle.xp_board.specs.declared.step.Mark.TheVariants.{Record}
use Rattle.xp_board.specs.declared.step.StepKind.TheVariants as kinds
use Rattle.xp_board.specs.Readings.{is_live_word}
use Rattle.xp_board.specs.Told.{Post, PortValue}
use Rattle.step_maker.specs.Visits.{Nothing, Only, Then, Visit}
use Rattle.step_maker.proofs.Visiting.{does_came}
use Rattle.frame_words.specs.Freeing.{PutBy}
use Rattle.frame_words.specs.Refs.{GetsBy, TakesFirst, had, stopped}
use Rattle.kind_words.specs.Kinds.{partial_kind}
use Rattle.frame_types.specs.Found.{DeadBy, SharedBy, StoresKind, TypeBy, saw_kind}
use Rattle.frame_types.specs.Plain.{is_read_first, is_refused}
use Rattle.frame_types.specs.declared.taking.Taken.{Taken}
use Rattle.frame_types.specs.declared.taking.Taken.TheVariants as types
use Rattle.table_words.specs.Entries.{Records}
use Rattle.partial_state.specs.Levels.{level_type}
use Rattle.partial_state.specs.declared.stack.TableWork.{TableWork}
use Rattle.table_entries.specs.Acquiring.{ResumedEntry, TookEntry}
use Rattle.table_entries.specs.Found as ways
use Rattle.table_entries.specs.Found.{EnteredBy, EntersBy, LastBy, LeftAfter, LeftBy, ReadBy, RefusesBy, ResumedBy, ResumesBy, TypedAgain, TypedBy, UnsettledBy, saw_cell}
use Rattle.table_entries.specs.declared.entries.Entered.{Entered}
use Rattle.table_entries.specs.declared.entries.Entered.TheVariants.{Recorded, Opened, Unsettled}
use Rattle.table_entries.specs.declared.resuming.Resumed.{Resumed}
use Rattle.table_entries.specs.declared.resuming.Resumed.TheVariants as again
use Rattle.determined_laws.specs.Forks.{Tie}
use Rattle.determined_laws.proofs.Courses.{alike_does}
use Rattle.determined_laws.proofs.References.{gets_tie, put_tie}
use Rattle.determined_laws.proofs.Ties.{tie_lists, tie_map, tie_one, tie_then}
use Rattle.determined_laws.proofs.Types.{dead_tie, shared_tie, store_tie, types_tie}
use Rattle.determined_tables.proofs.Chains.{IsFixed}
use Rattle.determined_tables.proofs.Leaves.{begins_with, made_real, ref_answer, ref_same}

-- ---- a list in two parts, of which the first has an answer
pub record Parted {A B : Type 0} (First : A → List Visit → Type 0) (Rest : A → B → List Visit → Type 0) (b : B) (vs : List Visit) : Type 0 where
  pub answer : A
  pub parts : Then (First answer) (Rest answer b) vs

pub parted_tie : {A B : Type 0} {First : A → List Visit → Type 0} {Rest : A → B → List Visit → Type 0} →
    ((a c : A) (us vs : List Visit) → First a us → First c vs → Tie us vs (a ≡ c)) → ((a : A) (b d : B) (us vs : List Visit) → Rest a b us → Rest a d vs → Tie us vs (b ≡ d)) →
    (b d : B) (us vs : List Visit) → Parted First Rest b us → Parted First Rest d vs → Tie us vs (b ≡ d)
parted_tie {A} {B} {First} {Rest} first rest b d us vs p q =
    let s = p.parts in
    let t = q.parts in
    tie_lists us vs _ _ _ s.list t.list
    (tie_then s.before t.before s.after t.after (p.answer ≡ q.answer) (b ≡ d) (first p.answer q.answer s.before t.before s.first t.first)
    (λ e same. rest q.answer b d s.after t.after (subst (λ z. Rest z b s.after) same s.next) t.next))

-- nothing, with that answer
abbrev pub NoMore : {B : Type 0} → B → B → List Visit → Type 0
NoMore c b vs = (b ≡ c) × Nothing vs

pub none_tie : {B : Type 0} (c b d : B) (us vs : List Visit) → NoMore c b us → NoMore c d vs → Tie us vs (b ≡ d)
none_tie c b d us vs p q = inr (p.1 ∙ sym q.1, p.0 ∙ sym q.0)

-- that list, with that answer
abbrev pub So : {B : Type 0} → B → (List Visit → Type 0) → B → List Visit → Type 0
So c P b vs = (b ≡ c) × P vs

pub so_tie : {B : Type 0} {P : List Visit → Type 0} → ((us vs : List Visit) → P us → P vs → Tie us vs (Unit {0})) → (c b d : B) (us vs : List Visit) → So c P b us → So c P d vs → Tie us vs (b ≡ d)
so_tie tie c b d us vs p q = tie_map us vs _ _ (tie us vs p.1 q.1) (λ e. p.0 ∙ sym q.0)

-- a part behind which there is nothing more
pub alone : {P Q : List Visit → Type 0} {vs : List Visit} → P vs → Q [] → Then P Q vs
alone {P} {Q} {vs} p q = record { before = vs; after = []; first = p; next = q; list = refl }

pub then_map : {P Q R : List Visit → Type 0} {vs : List Visit} → Then P Q vs → ((us : List Visit) → Q us → R us) → Then P R vs
then_map t so = record { before = t.before; after = t.after; first = t.first; next = so t.after t.next; list = t.list }

-- ---- what entries do: looks, and a note of what is recorded
pub cell_tie : (f i x y : ℕ) (us vs : List Visit) → Only (saw_cell f i x) us → Only (saw_cell f i y) vs → Tie us vs (x ≡ y)
cell_tie f i x y us vs p q = tie_lists us vs _ _ _ p q (tie_one _ (Cell f i) Load None x y)

pub kind_tie : (f x y : ℕ) (us vs : List Visit) → Only (saw_kind f x) us → Only (saw_kind f y) vs → Tie us vs (x ≡ y)
kind_tie f x y us vs p q = tie_lists us vs _ _ _ p q (tie_one _ (Kind f) Load None x y)

pub records_tie : (f upto : ℕ) (us vs : List Visit) → Records f upto us → Records f upto vs → Tie us vs (Unit {0})
records_tie f upto us vs p q = tie_lists us vs _ _ _ p.1 q.1 (tie_map _ _ _ _ (tie_one kinds.Look Clock Load (Some (Record f upto)) p.0 q.0) (λ e. tt))

pub pair_tie : {P Q : List Visit → Type 0} → ((us vs : List Visit) → P us → P vs → Tie us vs (Unit {0})) → ((us vs : List Visit) → Q us → Q vs → Tie us vs (Unit {0})) →
    (us vs : List Visit) → Then P Q us → Then P Q vs → Tie us vs (Unit {0})
pair_tie one two us vs p q = tie_lists us vs _ _ _ p.list q.list (tie_then p.before q.before p.after q.after (Unit {0}) (Unit {0}) (one p.before q.before p.first q.first) (λ e s. two p.after q.after p.next q.next))

pub reference_tie : (n : Machine) (g owner : ℕ) (o p : Option Stop) (us vs : List Visit) → GetsBy {A = ℕ} n g owner (ref_answer g o) us → GetsBy {A = ℕ} n g owner (ref_answer g p) vs → Tie us vs (o ≡ p)
reference_tie n g owner o p us vs a b = tie_map us vs _ _ (gets_tie {A = ℕ} n g owner (ref_answer g o) (ref_answer g p) us vs a b) (ref_same g o p)

-- ---- a reference first, and then P
module _ {A : Type 0} (n : Machine) (g owner : ℕ) (P : Result A Stop → List Visit → Type 0) where
  abbrev FirstRest : Option Stop → Result A Stop → List Visit → Type 0
  FirstRest None a vs = P a vs
  FirstRest (Some e) a vs = NoMore (Err e) a vs

  first_view : (a : Result A Stop) (vs : List Visit) → TakesFirst n g owner (P a) a vs → Parted (λ o gs. GetsBy {A = ℕ} n g owner (ref_answer g o) gs) FirstRest a vs
  first_view a vs (stopped e is p) = record { answer = Some e; parts = alone p (is, refl) }
  first_view a vs (had t) = record { answer = None; parts = t }

  pub first_tie : ((a b : Result A Stop) (us vs : List Visit) → P a us → P b vs → Tie us vs (a ≡ b)) → (a b : Result A Stop) (us vs : List Visit) → TakesFirst n g owner (P a) a us → TakesFirst n g owner (P b) b vs → Tie us vs (a ≡ b)
  first_tie rest a b us vs p q = parted_tie (reference_tie n g owner) next a b us vs (first_view a us p) (first_view b vs q)
    where
      next : (o : Option Stop) (a b : Result A Stop) (us vs : List Visit) → FirstRest o a us → FirstRest o b vs → Tie us vs (a ≡ b)
      next None a b us vs p q = rest a b us vs p q
      next (Some e) a b us vs p q = none_tie (Err e) a b us vs p q

-- ---- an entry that asks a type, behind its reference
module _ (q : Post) (real : q.vcpu < length q.machine.vcpu_domain) (g owner : ℕ) (t : PageType) where
  abbrev Takes : Result Taken Stop → List Visit → Type 0
  Takes a vs = TypeBy q g owner t a vs

  takes_tie : (a b : Result Taken Stop) (us vs : List Visit) → Takes a us → Takes b vs → Tie us vs (a ≡ b)
  takes_tie a b us vs p r = types_tie q real g owner t a b us vs p r

  module _ (f i : ℕ) where
    -- it waits under its own type count: recorded; or dead where the clock is at its last value, and it holds no entries
    data OwnWaits (stamp : ℕ) (stop : Stop) (a : Result Entered Stop) (vs : List Visit) : Type 0 where
      noted : (is_refused stop ≡ true → is_read_first t ≡ true) → So (Ok (Unsettled stop)) (λ us. Then (StoresKind g (partial_kind t false true 0 stamp)) (Records f (i + 1)) us) a vs → OwnWaits stamp stop a vs
      died : is_refused stop ≡ true → is_read_first t ≡ false → So (Err stop) (DeadBy g t) a vs → OwnWaits stamp stop a vs

    abbrev EnterRest : Result Taken Stop → Result Entered Stop → List Visit → Type 0
    EnterRest (Ok types.Counted) a vs = So (Ok Recorded) (Records f (i + 1)) a vs
    EnterRest (Ok (types.InWork progress own)) a vs = NoMore (Ok (Opened g progress own)) a vs
    EnterRest (Ok (types.Waiting true stamp stop)) a vs = OwnWaits stamp stop a vs
    EnterRest (Ok (types.Waiting false stamp stop)) a vs = So (Err stop) (λ us. SharedBy g t stamp us) a vs
    EnterRest (Err e) a vs = So (Err e) (PutBy g) a vs

    clash : {A : Type 0} (stop : Stop) → (is_refused stop ≡ true → is_read_first t ≡ true) → is_refused stop ≡ true → is_read_first t ≡ false → A
    clash stop first refused none = absurd (let e = sym (first refused) ∙ none in cc)

    waits_tie : (stamp : ℕ) (stop : Stop) (a b : Result Entered Stop) (us vs : List Visit) → OwnWaits stamp stop a us → OwnWaits stamp stop b vs → Tie us vs (a ≡ b)
    waits_tie stamp stop a b us vs (noted e p) (noted h r) = so_tie (pair_tie (store_tie g (partial_kind t false true 0 stamp)) (records_tie f (i + 1))) (Ok (Unsettled stop)) a b us vs p r
    waits_tie stamp stop a b us vs (noted e p) (died x n r) = clash stop e x n
    waits_tie stamp stop a b us vs (died x n p) (noted e r) = clash stop e x n
    waits_tie stamp stop a b us vs (died x n p) (died y m r) = so_tie (dead_tie g t) (Err stop) a b us vs p r

    enter_rest_tie : (w : Result Taken Stop) (a b : Result Entered Stop) (us vs : List Visit) → EnterRest w a us → EnterRest w b vs → Tie us vs (a ≡ b)
    enter_rest_tie (Ok types.Counted) a b us vs p r = so_tie (records_tie f (i + 1)) (Ok Recorded) a b us vs p r
    enter_rest_tie (Ok (types.InWork progress own)) a b us vs p r = none_tie (Ok (Opened g progress own)) a b us vs p r
    enter_rest_tie (Ok (types.Waiting true stamp stop)) a b us vs p r = waits_tie stamp stop a b us vs p r
    enter_rest_tie (Ok (types.Waiting false stamp stop)) a b us vs p r = so_tie (shared_tie g t stamp) (Err stop) a b us vs p r
    enter_rest_tie (Err e) a b us vs p r = so_tie (put_tie g) (Err e) a b us vs p r

    abbrev Typed : Result Entered Stop → List Visit → Type 0
    Typed a vs = Parted Takes EnterRest a vs

    left_view : (stop : Stop) (vs : List Visit) → LeftAfter q g owner t stop vs → Typed (Err stop) vs
    left_view stop vs p = record { answer = Ok (types.Waiting p.own p.stamp stop); parts = then_map p.steps (λ us l. rest p.own stop us l) }
      where
        rest : (own : Bool) (s : Stop) (us : List Visit) → LeftBy g t own p.stamp s us → EnterRest (Ok (types.Waiting own p.stamp s)) (Err s) us
        rest true (Refused x) us l = died refl l.0 (refl, l.1)
        rest true (Paused x) us l = absurd l
        rest false s us l = (refl, l)

    refused_view : (e : Stop) (vs : List Visit) → RefusesBy q g owner t e vs → Typed (Err e) vs
    refused_view e vs p = record { answer = Err e; parts = then_map p (λ us l. (refl, l)) }

    typed_view : (a : Result Entered Stop) (vs : List Visit) → TypedBy q g owner t f i a vs → Typed a vs
    typed_view (Ok Recorded) vs p = record { answer = Ok types.Counted; parts = then_map p (λ us r. (refl, r)) }
    typed_view (Ok (Opened h progress own)) vs p = record { answer = Ok (types.InWork progress own); parts = alone p.1 (ap (λ z. Ok (Opened z progress own)) p.0, refl) }
    typed_view (Ok (Unsettled stop)) vs p = record { answer = Ok (types.Waiting true p.stamp stop); parts = then_map p.steps (λ us r. noted p.first (refl, r)) }
    typed_view (Err (Refused (refusals.Clock x))) vs p = left_view (Refused (refusals.Clock x)) vs p
    typed_view (Err (Paused (Flush u stamp x))) vs p = left_view (Paused (Flush u stamp x)) vs p
    typed_view (Err e) vs p = refused_view e vs p

    pub typed_tie : (a b : Result Entered Stop) (us vs : List Visit) → TypedBy q g owner t f i a us → TypedBy q g owner t f i b vs → Tie us vs (a ≡ b)
    typed_tie a b us vs p r = parted_tie takes_tie enter_rest_tie a b us vs (typed_view a us p) (typed_view b vs r)

  -- ---- taken again
  abbrev AgainRest : Result Taken Stop → Result Resumed Stop → List Visit → Type 0
  AgainRest (Ok types.Counted) a vs = NoMore (Ok (again.Taken g)) a vs
  AgainRest (Ok (types.InWork progress own)) a vs = NoMore (Ok (again.Opened g progress)) a vs
  AgainRest (Ok (types.Waiting own stamp stop)) a vs = NoMore (Ok (again.Waiting g stamp stop)) a vs
  AgainRest (Err e) a vs = So (Err e) (PutBy g) a vs

  again_rest_tie : (w : Result Taken Stop) (a b : Result Resumed Stop) (us vs : List Visit) → AgainRest w a us → AgainRest w b vs → Tie us vs (a ≡ b)
  again_rest_tie (Ok types.Counted) a b us vs p r = none_tie (Ok (again.Taken g)) a b us vs p r
  again_rest_tie (Ok (types.InWork progress own)) a b us vs p r = none_tie (Ok (again.Opened g progress)) a b us vs p r
  again_rest_tie (Ok (types.Waiting own stamp stop)) a b us vs p r = none_tie (Ok (again.Waiting g stamp stop)) a b us vs p r
  again_rest_tie (Err e) a b us vs p r = so_tie (put_tie g) (Err e) a b us vs p r

  again_view : (a : Result Resumed Stop) (vs : List Visit) → TypedAgain q g owner t a vs → Parted Takes AgainRest a vs
  again_view (Ok again.Settled) vs p = absurd p
  again_view (Ok (again.Taken h)) vs p = record { answer = Ok types.Counted; parts = alone p.1 (ap (λ z. Ok (again.Taken z)) p.0, refl) }
  again_view (Ok (again.Opened h progress)) vs p = record { answer = Ok (types.InWork progress false); parts = alone p.1 (ap (λ z. Ok (again.Opened z progress)) p.0, refl) }
  again_view (Ok (again.Waiting h stamp stop)) vs p = record { answer = Ok (types.Waiting false stamp stop); parts = alone p.1 (ap (λ z. Ok (again.Waiting z stamp stop)) p.0, refl) }
  again_view (Err e) vs p = record { answer = Err e; parts = then_map p (λ us l. (refl, l)) }

  pub again_tie : (a b : Result Resumed Stop) (us vs : List Visit) → TypedAgain q g owner t a us → TypedAgain q g owner t b vs → Tie us vs (a ≡ b)
  again_tie a b us vs p r = parted_tie takes_tie again_rest_tie a b us vs (again_view a us p) (again_view b vs r)

-- ---- the next entry
module _ (q : Post) (real : q.vcpu < length q.machine.vcpu_domain) (owner : ℕ) where
  module _ (f i : ℕ) (g : ℕ) where
    abbrev ReadRest : Option Stop → Result Entered Stop → List Visit → Type 0
    ReadRest None a vs = So (Ok Recorded) (Records f (i + 1)) a vs
    ReadRest (Some e) a vs = NoMore (Err e) a vs

    read_rest_tie : (o : Option Stop) (a b : Result Entered Stop) (us vs : List Visit) → ReadRest o a us → ReadRest o b vs → Tie us vs (a ≡ b)
    read_rest_tie None a b us vs p r = so_tie (records_tie f (i + 1)) (Ok Recorded) a b us vs p r
    read_rest_tie (Some e) a b us vs p r = none_tie (Err e) a b us vs p r

    read_view : (a : Result Entered Stop) (vs : List Visit) → ReadBy q.machine g owner f i a vs → Parted (λ o gs. GetsBy {A = ℕ} q.machine g owner (ref_answer g o) gs) ReadRest a vs
    read_view (Ok Recorded) vs p = record { answer = None; parts = then_map p (λ us r. (refl, r)) }
    read_view (Ok _) vs p = absurd p
    read_view (Err e) vs p = record { answer = Some e; parts = alone p (refl, refl) }

    read_tie : (a b : Result Entered Stop) (us vs : List Visit) → ReadBy q.machine g owner f i a us → ReadBy q.machine g owner f i b vs → Tie us vs (a ≡ b)
    read_tie a b us vs p r = parted_tie (reference_tie q.machine g owner) read_rest_tie a b us vs (read_view a us p) (read_view b vs r)

  enters_tie : (f i word : ℕ) (d : Demand) (a b : Result Entered Stop) (us vs : List Visit) → EntersBy q f i owner a word d us → EntersBy q f i owner b word d vs → Tie us vs (a ≡ b)
  enters_tie f i word demands.Nothing a b us vs p r = so_tie (records_tie f (i + 1)) (Ok Recorded) a b us vs p r
  enters_tie f i word demands.Bad a b us vs p r = none_tie (Err (Refused (refusals.Reserved f i word))) a b us vs p r
  enters_tie f i word (demands.Read g) a b us vs p r = read_tie f i g a b us vs p r
  enters_tie f i word (demands.Typed g t) a b us vs p r = first_tie q.machine g owner (λ c ts. TypedBy q g owner t f i c ts) (typed_tie q real g owner t f i) a b us vs p r

  pub entered_tie : (f i : ℕ) (t : PageType) (a b : Result Entered Stop) (us vs : List Visit) → EnteredBy q f i t owner a us → EnteredBy q f i t owner b vs → Tie us vs (a ≡ b)
  entered_tie f i t a b us vs p r =
      parted_tie {First = λ x us. Only (saw_cell f i x) us} {Rest = λ x a us. EntersBy q f i owner a x (demand_at t i x) us} (cell_tie f i) (λ x a b us vs. enters_tie f i x (demand_at t i x) a b us vs) a b us vs (record { answer = p.0; parts = p.1 }) (record { answer = r.0; parts = r.1 })

  -- ---- the last recorded entry again
  module _ (g : ℕ) (t : PageType) where
    abbrev Again : Result Resumed Stop → List Visit → Type 0
    Again a vs = TakesFirst q.machine g owner (λ ts. TypedAgain q g owner t a ts) a vs

    abbrev LiveRest : Bool → Result Resumed Stop → List Visit → Type 0
    LiveRest true a vs = NoMore (Ok again.Settled) a vs
    LiveRest false a vs = Again a vs

    abbrev Looks : Result Resumed Stop → List Visit → Type 0
    Looks a vs = Parted (λ x us. Only (saw_kind g x) us) (λ x c us. LiveRest (is_live_word x) c us) a vs

    abbrev Last : Result Resumed Stop → List Visit → Type 0
    Last a vs = ((q.machine.frames ≤ g) × Again a vs) ⊎ ((g < q.machine.frames) × Looks a vs)

    last_view : (a : Result Resumed Stop) (vs : List Visit) → LastBy q g t owner a vs → Last a vs
    last_view a vs (ways.settled x near live is seen) = inr (near, record { answer = x; parts = alone seen (subst (λ z. LiveRest z a []) (sym live) (is, refl)) })
    last_view a vs (ways.outside far p) = inl (far, p)
    last_view a vs (ways.other x near live p) = inr (near, record { answer = x; parts = then_map p (λ us r. subst (λ z. LiveRest z a us) (sym live) r) })

    again_first_tie : (a b : Result Resumed Stop) (us vs : List Visit) → Again a us → Again b vs → Tie us vs (a ≡ b)
    again_first_tie a b us vs p r = first_tie q.machine g owner (λ c ts. TypedAgain q g owner t c ts) (again_tie q real g owner t) a b us vs p r

    live_rest_tie : (c : Bool) (a b : Result Resumed Stop) (us vs : List Visit) → LiveRest c a us → LiveRest c b vs → Tie us vs (a ≡ b)
    live_rest_tie true a b us vs p r = none_tie (Ok again.Settled) a b us vs p r
    live_rest_tie false a b us vs p r = again_first_tie a b us vs p r

    last_tie : (a b : Result Resumed Stop) (us vs : List Visit) → Last a us → Last b vs → Tie us vs (a ≡ b)
    last_tie a b us vs (inl p) (inl r) = again_first_tie a b us vs p.1 r.1
    last_tie a b us vs (inl p) (inr r) = absurd (let far = p.0 in let near = r.0 in omega (arith, far, near))
    last_tie a b us vs (inr p) (inl r) = absurd (let far = r.0 in let near = p.0 in omega (arith, far, near))
    last_tie a b us vs (inr p) (inr r) = parted_tie (kind_tie g) (λ x. live_rest_tie (is_live_word x)) a b us vs p.1 r.1

  resumes_tie : (d : Demand) (a b : Result Resumed Stop) (us vs : List Visit) → ResumesBy q owner a d us → ResumesBy q owner b d vs → Tie us vs (a ≡ b)
  resumes_tie (demands.Typed g t) a b us vs p r = last_tie g t a b us vs (last_view g t a us p) (last_view g t b vs r)
  resumes_tie d a b us vs p r = none_tie (Ok again.Settled) a b us vs p r

  pub resumed_tie : (f i : ℕ) (t : PageType) (a b : Result Resumed Stop) (us vs : List Visit) → ResumedBy q f i t owner a us → ResumedBy q f i t owner b vs → Tie us vs (a ≡ b)
  resumed_tie f i t a b us vs p r =
      parted_tie {First = λ x us. Only (saw_cell f i x) us} {Rest = λ x a us. ResumesBy q owner a (demand_at t i x) us} (cell_tie f i) (λ x. resumes_tie (demand_at t i x)) a b us vs (record { answer = p.0; parts = p.1 }) (record { answer = r.0; parts = r.1 })

-- ---- as calls
pub entry_fixed : (v : PortValue) (owner : ℕ) (t : TableWork) → IsFixed v (λ w a. TookEntry v w owner t a)
entry_fixed v owner t =
    record {
      came = λ w a p. does_came v w _ p.found;
      alike = λ w x a b p r. alike_does p.found r.found (entered_tie v.post (made_real v w _ p.found (λ e. begins_with _ _ e.1)) owner t.frame t.done (level_type t.level) a b);
    }

pub resumed_fixed : (v : PortValue) (owner : ℕ) (t : TableWork) → IsFixed v (λ w a. ResumedEntry v w owner t a)
resumed_fixed v owner t =
    record {
      came = λ w a p. does_came v w _ p.found;
      alike = λ w x a b p r. alike_does p.found r.found (resumed_tie v.post (made_real v w _ p.found (λ e. begins_with _ _ e.1)) owner t.frame (t.done - 1) (level_type t.level) a b);
    }
