-- Lists of extents that go on from turn to turn come to what they come to at once: from the law of one extent.
use Rattle.std.proofs.Common.{◌≡◌, ◌⊎◌, ℕ, zero, suc, ◌<◌, ◌≤◌, ◌==◌, ◌^◌, ◌%◌, ◌/◌, ◌||◌, not, nat_lt, max, if◌then◌else◌, Bool, true, false, List, [], ◌∷◌, ◌++◌, length, map, replicate, Option, Some, None, Result, Ok, Err, refl, sym, ap, ◌∙◌, subst, inl, inr, arith}
use Rattle.std.specs.Prelude.{drop, slice_get}
use Rattle.std.specs.Option.{option_map}
use Rattle.std.proofs.lemmas.Bool.{cases_Bool}
use Rattle.std.proofs.lemmas.Bool.Decides.{nat_tests}
use Rattle.std.proofs.lemmas.List.{length-map, length-replicate}
use Rattle.std.proofs.lemmas.Nat.{pow_pos}
use Rattle.std.proofs.lemmas.Option.{slice_get-map}
use Rattle.xp_words.specs.declared.reply.LogLine.{LogLine}
use Rattle.xp_words.specs.declared.reply.Refusal.{Refusal}
use Rattle.xp_words.specs.declared.reply.Refusal.TheVariants.{BadCommand, BadRange, BatchLong}
use Rattle.xp_words.specs.declared.reply.Stop.{Stop}
use Rattle.xp_words.specs.declared.reply.Stop.TheVariants.{Refused, Paused}
use Rattle.xp_board.specs.Readings.{domain_of}
use Rattle.xp_board.specs.Told.{Post, PortValue}
use Rattle.step_maker.specs.Holds.{Rests}
use Rattle.step_maker.specs.Moves.{Came}
use Rattle.step_maker.proofs.Coming.{came_post, came_trans}
use Rattle.own_cache.proofs.Listing.{there_is}
use Rattle.reservations.specs.Extents.{Reserves}
use Rattle.reservations.specs.declared.extents.Extent.{Extent}
use Rattle.reservations.specs.declared.extents.Extent.TheVariants.{Decrease, Increase, Populate}
use Rattle.course_laws.proofs.Awaiting.{AloneStays, NeitherLostNorBusy}
use Rattle.script_law.specs.Memory.{count_in, counted_in, done_before, extents_of, list_refusal, reserve}
use Rattle.script_law.specs.Scripts.{Answered, answered, extents_by, in_order, logged_behind}
use Rattle.script_law.specs.Values.{Line, Outcome, Solo, Whose}
use Rattle.solo_ports.specs.Standing.{Clean, Fair, IsSettled, Owes, nothing, whose}
use Rattle.solo_memory.specs.Extents.{ComesExtent, line_of}
use Rattle.solo_memory.proofs.Extending.{settled_extent}
use Rattle.vcpu_turn.specs.Cpus.{reply_of}
use Rattle.vcpu_turn.specs.Extents.{Block, ExtentFits, PlacesExtents, WorksExtents, begins_in, block_at, counted_by, extent_at, extents_in, gave_extents, given_back, given_by, given_lines, is_uncounted, left_in, mem_refusal, place_for, populated, range_refusal, refusal_in}
use Rattle.vcpu_turn.specs.Extents as courses
use Rattle.vcpu_turn.specs.Lists.{DidItems, Fitting, WorksOn}
use Rattle.vcpu_turn.specs.Lists as lists
use Rattle.vcpu_turn.specs.Working.{valued}
use Rattle.vcpu_turn.specs.declared.cpu.CallNumber.{CallNumber}
use Rattle.vcpu_turn.specs.declared.cpu.Progress.{Progress}
use Rattle.vcpu_turn.proofs.Hindering.{extent_came}
use Rattle.vcpu_turn.proofs.Listing.{did_on}
use Rattle.vcpu_turn.proofs.GoingExtents.{lines_both}
use Rattle.script_laws.specs.Logged.{AreLines, IsShown}
use Rattle.script_laws.proofs.Items.{OwesF}
use Rattle.script_laws.proofs.Listed.{lines_more, plain_list}
use Rattle.script_laws.proofs.Lists.{ItemComes, ListComes, ListLemmas, list_comes}
use Rattle.script_laws.proofs.Lists as listing
use Rattle.script_laws.proofs.Premises.{FairFrom, fair_back, fair_on}
use Rattle.script_laws.proofs.Settling.{owes_clean}
use Rattle.script_laws.proofs.Tasks.{Comes, ExtentsGoing, IsTaskAnswered, Lives, own}
use Rattle.script_laws.proofs.Untouched.{itself, reserve_keeps}
use Rattle.script_laws.proofs.Knowing.{ShownLaws, shows_for, stands_alone}
use Rattle.shown_words.specs.Shown.{ShowsSettled}

-- the law of one extent
abbrev pub ExtentLaw : Type 0
ExtentLaw = (v w : PortValue) (x : Solo) (size call k : ℕ) (extent : Extent) (left : ℕ) (answer : Result (Option ℕ) Stop) → Clean v x → 0 < size → Fair v w → Reserves (domain_of v.post.machine v.post.vcpu) size extent 0 v left w answer →
    ComesExtent call k w (reserve (whose v) size call k extent x) answer

-- ---- the turn and the plain operation count the extents alike, and refuse the same lists
same_counted : (items : List ℕ) → counted_by items ≡ counted_in items
same_counted [] = refl
same_counted (x ∷ []) = refl
same_counted (x ∷ y ∷ items) = refl

same_count : (command : ℕ) (items : List ℕ) → extents_in command items ≡ count_in command items
same_count command items = ap (λ k. if command % 64 == 0 then k else length items) (same_counted items)

same_range : (wide : Bool) → range_refusal wide ≡ (if wide then Some BadRange else None)
same_range true = refl
same_range false = refl

same_checks : (uncounted long empty a b c wide : Bool) → ◌≡◌ {A = Option Refusal} (if uncounted then Some BadRange else if long then Some BatchLong else if empty then None else if not ((a || b) || c) then Some BadCommand else range_refusal wide)
    (if uncounted then Some BadRange else if long then Some BatchLong else if empty then None else if not (a || (b || c)) then Some BadCommand else if wide then Some BadRange else None)
same_checks true long empty a b c wide = refl
same_checks false true empty a b c wide = refl
same_checks false false true a b c wide = refl
same_checks false false false true b c wide = same_range wide
same_checks false false false false true c wide = same_range wide
same_checks false false false false false true wide = same_range wide
same_checks false false false false false false wide = refl

same_refusal : (command order : ℕ) (items : List ℕ) → mem_refusal command order items ≡ list_refusal command order items
same_refusal command order items =
    ap (λ n. if is_uncounted command items then Some BadRange else refusal_in command order n) (same_count command items)
    ∙ same_checks (is_uncounted command items) (nat_lt 512 (count_in command items)) (count_in command items == 0) (command % 64 == 0) (command % 64 == 1) (command % 64 == 6) (nat_lt 9 order || nat_lt (count_in command items) (command / 64))

-- each is the extent of that number
count_by : (a b : Bool) (items : List ℕ) (n : ℕ) → length (if a then replicate n Increase else if b then map Decrease items else map Populate items) ≡ (if a then n else length items)
count_by true b items n = length-replicate n Increase
count_by false true items n = length-map items Decrease
count_by false false items n = length-map items Populate

all_extents : (command : ℕ) (items : List ℕ) → length (extents_of command items) ≡ extents_in command items
all_extents command items = count_by (command % 64 == 0) (command % 64 == 1) items (counted_in items) ∙ sym (same_count command items)

each_same : {E : Type 0} (n : ℕ) (x e : E) (k : ℕ) → slice_get (replicate n x) k ≡ Some e → e ≡ x
each_same zero x e zero is = absurd cc
each_same zero x e (suc k) is = absurd cc
each_same (suc n) x e zero is = cc
each_same (suc n) x e (suc k) is = each_same n x e k is

back_map : (o : Option ℕ) → given_back o ≡ option_map Decrease o
back_map (Some x) = refl
back_map None = refl

populated_map : (o : Option ℕ) → populated o ≡ option_map Populate o
populated_map (Some x) = refl
populated_map None = refl

one_of : {E : Type 0} (o p : Option E) (x e : E) → o ≡ p → o ≡ Some x → p ≡ Some e → x ≡ e
one_of o p x e same a b = let k = sym a ∙ (same ∙ b) in cc

extent_by : (a b c : Bool) (items : List ℕ) (n k : ℕ) (x e : Extent) → ◌≡◌ {A = Option Extent} (if a then Some Increase else if b then given_back (slice_get items k) else if c then populated (slice_get items k) else None) (Some x) →
    slice_get (if a then replicate n Increase else if b then map Decrease items else map Populate items) k ≡ Some e → x ≡ e
extent_by true b c items n k x e at is = let s = each_same n Increase e k is in cc
extent_by false true c items n k x e at is = one_of (given_back (slice_get items k)) (slice_get (map Decrease items) k) x e (back_map (slice_get items k) ∙ sym (slice_get-map Decrease items k)) at is
extent_by false false true items n k x e at is = one_of (populated (slice_get items k)) (slice_get (map Populate items) k) x e (populated_map (slice_get items k) ∙ sym (slice_get-map Populate items k)) at is
extent_by false false false items n k x e at is = absurd cc

same_extent : (command : ℕ) (items : List ℕ) (k : ℕ) (x e : Extent) → extent_at command items k ≡ Some x → slice_get (extents_of command items) k ≡ Some e → x ≡ e
same_extent command items k x e at is = extent_by (command % 64 == 0) (command % 64 == 1) (command % 64 == 6) items (counted_in items) k x e at is

-- ---- lines, and places
said_one : (op call k : ℕ) (given : Option ℕ) → AreLines op (given_lines (record { op = op; call = call }) (block_at k given)) (line_of call k given)
said_one op call k (Some first) = ((refl, refl, refl, refl), tt)
said_one op call k None = tt

-- whether there are any
some_there : {A : Type 0} (n : ℕ) (x y : A) → 0 < n → (if n == 0 then x else y) ≡ y
some_there n x y some = elim (cases_Bool (n == 0)) [ inl none ↦ absurd (let k : n ≡ 0 = grind (arith, nat_tests) in omega arith) | inr more ↦ rw more refl ]

none_there : {A : Type 0} (n : ℕ) (x y : A) → n ≡ 0 → (if n == 0 then x else y) ≡ x
none_there n x y none = subst (λ j. (if j == 0 then x else y) ≡ x) (sym none) refl

-- no extent goes on within
none_within : (from within k : ℕ) → within ≡ 0 → place_for from within k ≡ 0
none_within from within k is = subst (λ j. place_for from j k ≡ 0) (sym is) (elim (cases_Bool (k == from)) [ inl same ↦ rw same refl | inr other ↦ rw other refl ])

-- ---- one extent
module _ (stays : AloneStays) (neither : NeitherLostNorBusy) (v0 : PortValue) (law : ExtentLaw) (shown : ShownLaws) where
  abbrev owner : Whose
  owner = own stays neither v0

  -- between extents
  record Between (v : PortValue) (s : Solo) : Type 0 where
    owes : OwesF stays neither v0 (Lives stays neither v0) v s
    rests : Rests v
    settled : IsSettled v

  same_own : (u : PortValue) → Came v0 u → whose u ≡ owner
  same_own u came = ap (λ (p : Post). record { machine = p.machine; domain = domain_of p.machine p.vcpu }) (came_post v0 u came)

  module _ (op call command order : ℕ) (items : List ℕ) (from within : ℕ) (begins : within ≡ 0) where
    abbrev es : List Extent
    es = extents_of command items

    abbrev one : ℕ → Extent → Solo → Outcome
    one k e s = reserve owner (2 ^ order) call k e s

    abbrev number : CallNumber
    number = record { op = op; call = call }

    abbrev fits : Fitting
    fits = ExtentFits owner.domain command order items from within

    abbrev gives : (k : ℕ) (u w : PortValue) (asked : List Bool) (r : Result (Unit {0}) Stop) → fits k u w asked r → List Block
    gives k u w asked r fit = block_at k fit.given

    abbrev Said : List Block → List Line → Type 0
    Said bs ls = AreLines op (given_lines number bs) ls

    abbrev Never : ℕ → PortValue → Solo → Type 0
    Never k v s = ⊥

    abbrev Ends : ℕ → Solo → Outcome → List Block → PortValue → Result (Unit {0}) Stop → Type 0
    Ends k s o gave w r = ItemComes (plain_list one) es IsShown (FairFrom v0) Between Never Never fits gives Said k s o gave w r

    begins_at : (k : ℕ) (e : Extent) (u w : PortValue) (asked : List Bool) (r : Result (Unit {0}) Stop) → slice_get es k ≡ Some e → (fit : fits k u w asked r) → whose u ≡ owner → Reserves (domain_of u.post.machine u.post.vcpu) (2 ^ order) e 0 u fit.left w (given_by fit.given r)
    begins_at k e u w asked r at fit same =
        subst (λ (o : Whose). Reserves o.domain (2 ^ order) e 0 u fit.left w (given_by fit.given r)) (sym same)
        (subst (λ j. Reserves owner.domain (2 ^ order) e j u fit.left w (given_by fit.given r)) (none_within from within k begins)
        (subst (λ x. Reserves owner.domain (2 ^ order) x (place_for from within k) u fit.left w (given_by fit.given r)) (same_extent command items k fit.extent e fit.is at) fit.reserves))

    comes_one : (k : ℕ) (e : Extent) (s : Solo) (u w : PortValue) (asked : List Bool) (r : Result (Unit {0}) Stop) → slice_get es k ≡ Some e → FairFrom v0 w → (fit : fits k u w asked r) → Between u s → ComesExtent call k w (one k e s) (given_by fit.given r)
    comes_one k e s u w asked r at fair fit b =
        let same = same_own u b.owes.ahead.came in
        subst (λ o. ComesExtent call k w (reserve o (2 ^ order) call k e s) (given_by fit.given r)) same
        (law u w s (2 ^ order) call k e fit.left (given_by fit.given r) (owes_clean u s b.rests b.settled b.owes.owes) (pow_pos order) (fair_on v0 u w b.owes.ahead.came fair).fair (begins_at k e u w asked r at fit same))

    -- what it leaves stands between extents again
    between : (k : ℕ) (e : Extent) (s : Solo) (u w : PortValue) (asked : List Bool) (r : Result (Unit {0}) Stop) → (fit : fits k u w asked r) → Between u s → Owes w (one k e s).left → Between w (one k e s).left
    between k e s u w asked r fit b owes =
        record {
          owes = record {
            ahead = record {
              came = came_trans v0 u w b.owes.ahead.came (extent_came owner.domain command order items from within k u w asked r fit);
              good = ap (λ (lives : ℕ → ℕ). lives owner.domain) (reserve_keeps s owner (2 ^ order) call k e s (itself s)).lives ∙ b.owes.ahead.good;
            };
            owes = owes;
          };
          rests = fit.reserves.rests;
          settled = settled_extent u w owner.domain (2 ^ order) fit.extent (place_for from within k) fit.left (given_by fit.given r) fit.reserves b.settled;
        }

    shows_one : (k : ℕ) (s : Solo) (u w : PortValue) (asked : List Bool) (x : Refusal) (fit : fits k u w asked (Err (Refused x))) → Between u s → ShowsSettled x
    shows_one k s u w asked x fit b = shown.extents u w owner.domain (2 ^ order) fit.extent (place_for from within k) fit.left x (stands_alone u s (owes_clean u s b.rests b.settled b.owes.owes).stands) fit.reserves

    item_by : (k : ℕ) (e : Extent) (s : Solo) (u w : PortValue) (asked : List Bool) (r : Result (Unit {0}) Stop) → (fit : fits k u w asked r) → Between u s → ComesExtent call k w (one k e s) (given_by fit.given r) → Ends k s (one k e s) (gives k u w asked r fit) w r
    unfolding plain_list
    item_by k e s u w asked (Ok done) fit b c = (c.fine, subst (Said (block_at k fit.given)) (sym c.lines) (said_one op call k fit.given), between k e s u w asked (Ok done) fit b (nothing c.clean))
    item_by k e s u w asked (Err (Refused x)) fit b c = (c.why, c.is, c.none, (c.same, shows_for x c.why (shows_one k s u w asked x fit b)), between k e s u w asked (Err (Refused x)) fit b c.owes)
    item_by k e s u w asked (Err (Paused p)) fit b c = absurd c

    item : (k : ℕ) (e : Extent) (s : Solo) (u w : PortValue) (asked : List Bool) (r : Result (Unit {0}) Stop) → slice_get es k ≡ Some e → FairFrom v0 w → (fit : fits k u w asked r) → Between u s ⊎ ⊥ → Ends k s (one k e s) (gives k u w asked r fit) w r
    item k e s u w asked r at fair fit (inl b) = item_by k e s u w asked r fit b (comes_one k e s u w asked r at fair fit b)
    item k e s u w asked r at fair fit (inr never) = absurd never

    said_both : (bs cs : List Block) (ls ms : List Line) → Said bs ls → Said cs ms → Said (bs ++ cs) (ls ++ ms)
    said_both bs cs ls ms a b = subst (λ gs. AreLines op gs (ls ++ ms)) (sym (lines_both number bs cs)) (lines_more op (given_lines number bs) (given_lines number cs) ls ms a b)

    extent_lemmas : ListLemmas (plain_list one) es IsShown (FairFrom v0) Between Never Never fits gives Said
    unfolding plain_list
    extent_lemmas =
        record {
          item = item;
          back = λ k u w asked r fit fair. fair_back v0 u w (extent_came owner.domain command order items from within k u w asked r fit) fair;
          inside = λ k v s never. absurd never;
          said_none = tt;
          said_more = said_both;
        }

    -- ---- the list
    abbrev gave_in : (v : PortValue) (to : ℕ) (w : PortValue) (answers : List Bool) (r : Result (Unit {0}) Stop) → WorksOn fits (length es) from v to w answers r → List Block
    gave_in v to w answers r works = listing.gave_on (plain_list one) es IsShown (FairFrom v0) Between Never Never fits gives Said from v to w answers r works

    abbrev gave_before : (v : PortValue) (to : ℕ) (w : PortValue) (answers : List Bool) → DidItems fits (length es) from v to w answers → List Block
    gave_before v to w answers did = listing.gave_did (plain_list one) es IsShown (FairFrom v0) Between Never Never fits gives Said from v to w answers did

    same_did : (v : PortValue) (to : ℕ) (w : PortValue) (answers : List Bool) (did : DidItems fits (length es) from v to w answers) → gave_before v to w answers did ≡ courses.gave_did did
    same_did v _ _ _ lists.DidItems.none = refl
    same_did v _ _ _ (lists.DidItems.more k u w answers asked did fit less) = ap (λ bs. bs ++ block_at k fit.given) (same_did v k u answers did)

    same_gave : (v : PortValue) (to : ℕ) (w : PortValue) (answers : List Bool) (r : Result (Unit {0}) Stop) (works : WorksOn fits (length es) from v to w answers r) → gave_in v to w answers r works ≡ courses.gave_on works
    same_gave v _ _ _ _ (lists.WorksOn.all_done at) = refl
    same_gave v _ _ _ _ (lists.WorksOn.last_done k u w answers asked did fit at) = ap (λ bs. bs ++ block_at k fit.given) (same_did v k u answers did)
    same_gave v _ _ _ _ (lists.WorksOn.due k u w answers asked did fit less) = ap (λ bs. bs ++ block_at k fit.given) (same_did v k u answers did)
    same_gave v _ _ _ _ (lists.WorksOn.stopped k u w answers asked e did fit less) = same_did v k u answers did

    -- what all that is left from s comes to, behind these lines
    abbrev Going : List Line → ℕ → Solo → Answered → Type 0
    Going ls k s b = logged_behind ls (in_order one (drop k es) k s) ≡ b

    abbrev Ended : List Line → Answered → ℕ → PortValue → Result (Unit {0}) Stop → Type 0
    Ended ls b k w r = ListComes (plain_list one) es IsShown (FairFrom v0) Between Never Never fits gives Said ls b k w r

    work_comes : (ls : List Line) (b : Answered) (v : PortValue) (s : Solo) (to : ℕ) (w : PortValue) (answers : List Bool) (r : Result (Unit {0}) Stop) (works : WorksOn fits (length es) from v to w answers r) → FairFrom v0 w → Between v s → Going ls from s b →
        (new : List Line) × Said (courses.gave_on works) new × Ended (ls ++ new) b to w r
    unfolding plain_list
    work_comes ls b v s to w answers r works fair stands going =
        let c = list_comes (plain_list one) es IsShown (FairFrom v0) Between Never Never fits gives Said extent_lemmas ls b from v to w answers r works fair (λ f. (s, going, inl stands)) in
        (c.0, subst (λ bs. Said bs c.0) (same_gave v to w answers r works) c.1, c.2)

    -- before each extent of the turn it stands so
    did_stands : (v : PortValue) (s : Solo) (k : ℕ) (u : PortValue) (answers : List Bool) → DidItems fits (length es) from v k u answers → FairFrom v0 u → Between v s → (t : Solo) × Between u t
    unfolding plain_list
    did_stands v s _ _ _ lists.DidItems.none fair stands = (s, stands)
    did_stands v s _ _ _ (lists.DidItems.more k u w answers asked did fit less) fair stands =
        let before = did_stands v s k u answers did (fair_back v0 u w (extent_came owner.domain command order items from within k u w asked (Ok tt) fit) fair) stands in
        let there = there_is es k (omega arith) in
        let c = item k there.0 before.0 u w asked (Ok tt) there.1 fair fit (inl before.1) in
        ((one k there.0 before.0).left, c.2)

    -- a pause is between two extents
    abbrev IfPaused : Result (Unit {0}) Stop → Type 0 → Type 0
    IfPaused (Err (Paused p)) P = P
    IfPaused r P = Unit {0}

    never_within : (v : PortValue) (s : Solo) (k : ℕ) (u w : PortValue) (answers asked : List Bool) (e : Stop) (left : ℕ) → DidItems fits (length es) from v k u answers → fits k u w asked (Err e) → k < length es → FairFrom v0 w → Between v s →
        IfPaused (Err e) ((from ≤ k) × (k ≤ length es) × (left ≡ 0))
    never_within v s k u w answers asked (Refused x) left did fit less fair stands = tt
    never_within v s k u w answers asked (Paused p) left did fit less fair stands =
        let before = did_stands v s k u answers did (fair_back v0 u w (extent_came owner.domain command order items from within k u w asked (Err (Paused p)) fit) fair) stands in
        let there = there_is es k less in
        absurd (comes_one k there.0 before.0 u w asked (Err (Paused p)) there.1 fair fit before.1)

    paused_between : (v : PortValue) (s : Solo) (to : ℕ) (w : PortValue) (answers : List Bool) (r : Result (Unit {0}) Stop) (works : WorksOn fits (length es) from v to w answers r) → FairFrom v0 w → Between v s → IfPaused r ((from ≤ to) × (to ≤ length es) × (left_in works within ≡ 0))
    paused_between v s _ _ _ _ (lists.WorksOn.all_done at) fair stands = tt
    paused_between v s _ _ _ _ (lists.WorksOn.last_done k u w answers asked did fit at) fair stands = tt
    paused_between v s _ _ _ _ (lists.WorksOn.due k u w answers asked did fit less) fair stands = let up = did_on fits (length es) from v k u answers did in (omega arith, omega arith, refl)
    paused_between v s _ _ _ _ (lists.WorksOn.stopped k u w answers asked e did fit less) fair stands = never_within v s k u w answers asked e fit.left did fit less fair stands

  -- ---- the operation
  module _ (op call command order : ℕ) (items : List ℕ) where
    abbrev numbered : CallNumber
    numbered = record { op = op; call = call }

    abbrev IsGoing : Progress → List LogLine → PortValue → Answered → Type 0
    IsGoing at made v b = ExtentsGoing stays neither v0 op call command order items at made v b

    abbrev IsDone : List LogLine → PortValue → Progress → ℕ → Option Refusal → Answered → Type 0
    IsDone made w to value x b = IsTaskAnswered stays neither v0 op made w (reply_of to.done value x) b

    abbrev ComesTo : Progress → List LogLine → PortValue → Answered → Result ℕ Stop → Type 0
    ComesTo to made w b r = Comes stays neither v0 (λ at ls u. IsGoing at ls u b) op to made w b r

    -- all that the command does not say is done
    abbrev from_first : Solo → Answered
    from_first s = in_order (λ k. reserve owner (2 ^ order) call k) (drop (done_before command) (extents_of command items)) (done_before command) s

    -- where the list stands as a turn goes on with it
    record Started (from : ℕ) (made : List LogLine) (v : PortValue) (b : Answered) : Type 0 where
      lines : List Line
      made_are : AreLines op made lines
      value : Solo
      owes : OwesF stays neither v0 (Lives stays neither v0) v value
      is : logged_behind lines (in_order (λ k. reserve owner (2 ^ order) call k) (drop from (extents_of command items)) from value) ≡ b

    started : (at : Progress) (made : List LogLine) (v : PortValue) (b : Answered) → list_refusal command order items ≡ None → 0 < count_in command items → IsGoing at made v b → Started (begins_in command at.done) made v b × (at.within ≡ 0)
    started at made v b checked some (inl begins) =
        let g = begins.0 in
        let none = begins.1 in
        let first : done_before command ≡ max at.done (command / 64) = omega arith in (
          record {
            lines = [];
            made_are = subst (λ ls. AreLines op ls []) (sym g.nothing) tt;
            value = g.value;
            owes = g.owes;
            is = subst (λ k. logged_behind [] (in_order (λ k. reserve owner (2 ^ order) call k) (drop k (extents_of command items)) k g.value) ≡ b) first
                (sym (some_there (count_in command items) (answered 0 0 None [] g.value) (from_first g.value) some) ∙ (sym (ap (extents_by owner call command order items g.value) checked) ∙ g.is));
          },
          begins.2,
        )
    started at made v b checked some (inr on) =
        let low = on.within in
        let first : at.done ≡ max at.done (command / 64) = omega arith in (
          record {
            lines = on.lines;
            made_are = on.made_are;
            value = on.value;
            owes = on.owes;
            is = subst (λ k. logged_behind on.lines (in_order (λ k. reserve owner (2 ^ order) call k) (drop k (extents_of command items)) k on.value) ≡ b) first on.is;
          },
          on.begun,
        )

    -- refused as a whole, or empty: nothing was logged
    abbrev Whole : PortValue → Answered → (Solo → Answered) → Type 0
    Whole v b plain = (s : Solo) × OwesF stays neither v0 (Lives stays neither v0) v s × (plain s ≡ b)

    none_begun : (at : Progress) (made : List LogLine) (v : PortValue) (b : Answered) (o : Option Refusal) → list_refusal command order items ≡ o → (count_in command items ≡ 0) ⊎ ((x : Refusal) × (o ≡ Some x)) → IsGoing at made v b →
        (made ≡ []) × (at.done ≡ 0) × Whole v b (λ s. extents_by owner call command order items s o)
    none_begun at made v b o is why (inl begins) =
        let g = begins.0 in (g.nothing, begins.1, (g.value, g.owes, sym (ap (extents_by owner call command order items g.value) is) ∙ g.is))
    none_begun at made v b o is (inl none) (inr on) = absurd (let some = on.some in omega arith)
    none_begun at made v b o is (inr refuses) (inr on) = absurd (let k = sym on.checked ∙ (is ∙ refuses.1) in cc)

    refused_comes : (at to : Progress) (made : List LogLine) (v w : PortValue) (b : Answered) (x : Refusal) → list_refusal command order items ≡ Some x → to.done ≡ 0 → w ≡ v → IsGoing at made v b → IsDone (made ++ []) w to 0 (Some x) b
    refused_comes at to made v w b x is none same going =
        let g = none_begun at made v b (Some x) is (inr (x, refl)) going in
        subst (λ a. IsDone (made ++ []) w to 0 (Some x) a) g.2.2 (record {
          lines = subst (λ ls. AreLines op (ls ++ []) []) (sym g.0) tt;
          replies = record { done = none; value = refl; refusal = (refl, tt) };
          owes = subst (λ y. OwesF stays neither v0 (Lives stays neither v0) y g.2.0) (sym same) g.2.1;
        })

    empty_comes : (at to : Progress) (made : List LogLine) (v : PortValue) (b : Answered) → list_refusal command order items ≡ None → count_in command items ≡ 0 → to.done ≡ at.done → IsGoing at made v b → IsDone (made ++ []) v to 0 None b
    empty_comes at to made v b checked empty same going =
        let g = none_begun at made v b None checked (inl empty) going in
        subst (λ a. IsDone (made ++ []) v to 0 None a) (sym (none_there (count_in command items) (answered 0 0 None [] g.2.0) (from_first g.2.0) empty) ∙ g.2.2) (record {
          lines = subst (λ ls. AreLines op (ls ++ []) []) (sym g.0) tt;
          replies = record { done = same ∙ g.1; value = refl; refusal = tt };
          owes = g.2.1;
        })

    -- those of a turn
    module _ (from within : ℕ) (begins : within ≡ 0) (checked : list_refusal command order items ≡ None) (some : 0 < count_in command items) (first : done_before command ≤ from) where
      abbrev EndsSo : List Line → Answered → ℕ → PortValue → Result (Unit {0}) Stop → Type 0
      EndsSo ls b k w r = Ended op call command order items from within begins ls b k w r

      abbrev IsBetween : Result (Unit {0}) Stop → Type 0 → Type 0
      IsBetween r P = IfPaused op call command order items from within begins r P

      ends_by : (to : Progress) (made : List LogLine) (ls : List Line) (w : PortValue) (b : Answered) (r : Result (Unit {0}) Stop) → AreLines op made ls → EndsSo ls b to.done w r → IsBetween r ((from ≤ to.done) × (to.done ≤ length (extents_of command items)) × (to.within ≡ 0)) → ComesTo to made w b (valued r)
      unfolding plain_list
      ends_by to made ls w b (Ok done) said c placed =
          subst (λ a. IsDone made w to 0 None a) (sym c.1) (record { lines = said; replies = record { done = refl; value = refl; refusal = tt }; owes = c.2.owes })
      ends_by to made ls w b (Err (Refused x)) said c placed =
          subst (λ a. IsDone made w to 0 (Some x) a) (sym c.2) (record { lines = said; replies = record { done = refl; value = refl; refusal = c.3 }; owes = c.4.owes })
      ends_by to made ls w b (Err (Paused p)) said (t, is, inl owes) placed =
          let same = all_extents command items ∙ same_count command items in
          let most = placed.1 in
          let low = placed.0 in
          inr (record {
            checked = checked;
            some = some;
            value = t;
            owes = owes.owes;
            begun = placed.2;
            within = omega arith;
            most = omega arith;
            lines = ls;
            made_are = said;
            is = is;
          })
      ends_by to made ls w b (Err (Paused p)) said (t, is, inr never) placed = absurd never

      placed_by : (to : Progress) (r : Result (Unit {0}) Stop) (left : ℕ) → to.within ≡ left → IsBetween r ((from ≤ to.done) × (to.done ≤ length (extents_of command items)) × (left ≡ 0)) → IsBetween r ((from ≤ to.done) × (to.done ≤ length (extents_of command items)) × (to.within ≡ 0))
      placed_by to (Ok done) left same placed = tt
      placed_by to (Err (Refused x)) left same placed = tt
      placed_by to (Err (Paused p)) left same placed = (placed.0, placed.1, same ∙ placed.2)

      on_comes : (to : Progress) (made : List LogLine) (v w : PortValue) (b : Answered) (answers : List Bool) (r : Result (Unit {0}) Stop) (works : WorksOn (fits op call command order items from within begins) (length (extents_of command items)) from v to.done w answers r) →
          to.within ≡ left_in works within → FairFrom v0 w → Rests v → IsSettled v → Started from made v b → ComesTo to (made ++ given_lines numbered (courses.gave_on works)) w b (valued r)
      on_comes to made v w b answers r works place fair rests settled s =
          let stands : Between v s.value = record { owes = s.owes; rests = rests; settled = settled } in
          let c = work_comes op call command order items from within begins s.lines b v s.value to.done w answers r works fair stands s.is in
          let placed = paused_between op call command order items from within begins v s.value to.done w answers r works fair stands in
          ends_by to (made ++ given_lines numbered (courses.gave_on works)) (s.lines ++ c.0) w b r (lines_more op made (given_lines numbered (courses.gave_on works)) s.lines c.0 s.made_are c.1) c.2 (placed_by to r (left_in works within) place placed)

    -- the same of the number of extents that the turn counts
    on_counted : (to : Progress) (made : List LogLine) (v w : PortValue) (b : Answered) (answers : List Bool) (r : Result (Unit {0}) Stop) (from within : ℕ) (begins : within ≡ 0) (checked : list_refusal command order items ≡ None) (some : 0 < count_in command items) (first : done_before command ≤ from)
        (n : ℕ) → length (extents_of command items) ≡ n → (k : ℕ) → to.done ≡ k → (works : WorksOn (fits op call command order items from within begins) n from v k w answers r) →
        to.within ≡ left_in works within → FairFrom v0 w → Rests v → IsSettled v → Started from made v b → ComesTo to (made ++ given_lines numbered (courses.gave_on works)) w b (valued r)
    on_counted to made v w b answers r from within begins checked some first n counted k is =
        subst (λ j. (works : WorksOn (fits op call command order items from within begins) n from v j w answers r) → to.within ≡ left_in works within → FairFrom v0 w → Rests v → IsSettled v → Started from made v b → ComesTo to (made ++ given_lines numbered (courses.gave_on works)) w b (valued r)) is
        (subst (λ m. (works : WorksOn (fits op call command order items from within begins) m from v to.done w answers r) → to.within ≡ left_in works within → FairFrom v0 w → Rests v → IsSettled v → Started from made v b → ComesTo to (made ++ given_lines numbered (courses.gave_on works)) w b (valued r)) counted
        (on_comes from within begins checked some first to made v w b answers r))

    comes_at : (at to : Progress) (made : List LogLine) (v w : PortValue) (b : Answered) (answers : List Bool) (r : Result (Unit {0}) Stop) (k : ℕ) (works : WorksExtents owner.domain command order items v at.done k w answers r) → to.done ≡ k → PlacesExtents works at.within to.within → FairFrom v0 w → Rests v → IsSettled v →
        IsGoing at made v b → ComesTo to (made ++ given_lines numbered (gave_extents works)) w b (valued r)
    comes_at at to made v _ b _ _ _ (courses.WorksExtents.refused k w answers r x why whole) is place fair rests settled going =
        subst (λ a. ComesTo to (made ++ []) w b (valued a)) (sym whole.refused) (refused_comes at to made v w b x (sym (same_refusal command order items) ∙ why) (is ∙ whole.none) whole.no_step going)
    comes_at at to made v _ b _ _ _ (courses.WorksExtents.none why empty) is place fair rests settled going =
        empty_comes at to made v b (sym (same_refusal command order items) ∙ why) (sym (same_count command items) ∙ empty) is going
    comes_at at to made v _ b _ _ _ (courses.WorksExtents.on k within w answers r why some works) is place fair rests settled going =
        let checked = sym (same_refusal command order items) ∙ why in
        let more = subst (λ n. 0 < n) (same_count command items) some in
        let s = started at made v b checked more going in
        let begins = place.0 ∙ s.1 in
        on_counted to made v w b answers r (begins_in command at.done) within begins checked more (omega arith) (extents_in command items) (all_extents command items) k is works (place.1 ∙ ap (λ old. left_in works old) (sym place.0)) fair rests settled s.0

  pub extents_work : (op call command order : ℕ) (items : List ℕ) (at to : Progress) (made : List LogLine) (v w : PortValue) (b : Answered) (answers : List Bool) (r : Result (Unit {0}) Stop) → (works : WorksExtents (own stays neither v0).domain command order items v at.done to.done w answers r) →
      PlacesExtents works at.within to.within → FairFrom v0 w → Rests v → IsSettled v → ExtentsGoing stays neither v0 op call command order items at made v b →
      Comes stays neither v0 (λ to made w. ExtentsGoing stays neither v0 op call command order items to made w b) op to (made ++ given_lines (record { op = op; call = call }) (gave_extents works)) w b (valued r)
  extents_work op call command order items at to made v w b answers r works place fair rests settled going = comes_at op call command order items at to made v w b answers r to.done works refl place fair rests settled going
