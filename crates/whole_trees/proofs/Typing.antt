-- An acquired table stands in hand with its type.
use Rattle.std.proofs.Common.{◌≡◌, ◌^◌, ◌<◌, ◌≤◌, ◌==◌, ◌++◌, not, ℕ, zero, suc, Bool, true, false, List, [], ◌∷◌, Option, Some, None, Result, Ok, IsTrue, refl, sym, ap, subst, ◌∙◌, arith}
use Rattle.std.proofs.lemmas.Bool.Decides.{nat_tests}
use Rattle.xp_words.specs.declared.kind.KindWord.{KindWord}
use Rattle.xp_words.specs.declared.kind.PageType.{PageType}
use Rattle.xp_words.specs.declared.place.Place.TheVariants.{Kind}
use Rattle.xp_words.specs.declared.reply.Stop.{Stop}
use Rattle.xp_words.specs.KindWords.{kind_fields, kind_read, kind_write}
use Rattle.xp_words.specs.Machine.{Machine}
use Rattle.xp_words.specs.PageTypes.{is_none}
use Rattle.xp_words.proofs.KindLaws.{fields_back, fields_in_range}
use Rattle.xp_board.specs.declared.holdings.Holdings.{Holdings}
use Rattle.xp_board.specs.declared.holdings.TypedReference.{TypedReference}
use Rattle.xp_board.specs.declared.holdings.Work.{Work}
use Rattle.xp_board.specs.declared.step.Act.TheVariants.{Cas, Store}
use Rattle.xp_board.specs.declared.step.StepKind.TheVariants as kinds
use Rattle.xp_board.specs.Hands.{work_on}
use Rattle.xp_board.specs.KindSteps.{AllowsKind, AllowsKindStore, Count, after_kind_cas, after_kind_store, kind_row, made_live, raised_kind}
use Rattle.xp_board.specs.Told.{PortValue}
use Rattle.xp_board.proofs.KindForms.{fields_of, live_form}
use Rattle.step_maker.specs.Moves.{Moment, Moves, MovesBy, Ran}
use Rattle.step_maker.specs.Visits.{Does, Only, Then, Visit, visit, visit_of, visits}
use Rattle.kind_words.specs.Kinds.{live_kind}
use Rattle.kind_words.proofs.KindWriting.{fields_write, live_is}
use Rattle.frame_types.specs.Found.{TakesBy, TakesFound, saw_kind}
use Rattle.frame_types.specs.Plain.{IsTakenBy, is_read_first}
use Rattle.frame_types.specs.Standing.{standing_of}
use Rattle.frame_types.specs.declared.standing.Standing.{Standing}
use Rattle.frame_types.specs.declared.standing.Standing.TheVariants as stands
use Rattle.frame_types.specs.declared.taking.Taken.TheVariants.{Counted}
use Rattle.frame_types.proofs.Classing.{when_counted}
use Rattle.partial_state.specs.Levels.{level_type}
use Rattle.table_entries.specs.Acquiring as acquiring
use Rattle.table_entries.specs.Acquiring.{Acquired, finished, outermost_table, type_counts, unfinished, unreferred, untyped, waiting}
use Rattle.table_entries.proofs.Shared.{few_counts}
use Rattle.course_laws.proofs.Outermost.{worked_outermost}

-- the newest typed reference in hand is one to frame f, of that type
pub record HasTyped (f : ℕ) (t : PageType) (h : Holdings) : Type 0 where
  pub newest : TypedReference
  pub others : List TypedReference
  pub typed : h.typed ≡ newest ∷ others
  pub frame : newest.frame ≡ f
  pub kind : newest.kind ≡ Some t

pub as_typed : (f : ℕ) (t : PageType) (h k : Holdings) → k.typed ≡ h.typed → HasTyped f t h → HasTyped f t k
as_typed f t h k same has = record { newest = has.newest; others = has.others; typed = same ∙ has.typed; frame = has.frame; kind = has.kind }

-- ---- a frame that is made live
live_by : (f : ℕ) (l : KindWord) (h : Holdings) (b : Bool) → (l.number == 1) ≡ b → HasTyped f l.kind (made_live f l h)
live_by f l h true one = rw one record { newest = _; others = _; typed = refl; frame = refl; kind = refl }
live_by f l h false more = rw more record { newest = _; others = _; typed = refl; frame = refl; kind = refl }

stored_by : (n : Machine) (s f new : ℕ) (o : Option Work) (h : Holdings) (l : KindWord) → AllowsKindStore n f h o (kind_read new) → kind_fields new ≡ l → l.validated ≡ true → HasTyped f l.kind (after_kind_store n s f new o h)
stored_by n s f new None h l allowed is live = absurd allowed
stored_by n s f new (Some e) h l allowed is live = rw (is, live) (live_by f l h (l.number == 1) refl)

pub made_live_has : (v w : PortValue) (f c found : ℕ) (t : PageType) → IsTrue (not (is_none t)) → c < 2 ^ 26 → Moves v w (Kind f) (Store (kind_write (live_kind t c))) kinds.Kind None found → HasTyped f t w.holdings
made_live_has v w f c found t typed few m =
    let read : kind_fields (kind_write (live_kind t c)) ≡ live_kind t c = fields_write (live_kind t c) (live_is t typed c few) in
    let h = v.holdings in
    let new = kind_write (live_kind t c) in
    as_typed f t (after_kind_store v.post.machine v.post.vcpu f new (work_on f h.works) h) w.holdings (ap (λ (y : PortValue). y.holdings.typed) m.to)
    (stored_by v.post.machine v.post.vcpu f new (work_on f h.works) h (live_kind t c) m.may.act read refl)

-- ---- one count more of a live frame
spelled_by : (n : Machine) (s f : ℕ) (h : Holdings) (x : ℕ) (o p : Option KindWord) → kind_read x ≡ o → AllowsKind n s f h o p → kind_read x ≡ Some (kind_fields x)
spelled_by n s f h x None p is allowed = absurd allowed
spelled_by n s f h x (Some k) p is allowed = is ∙ ap Some (sym (fields_of x k is))

raised_row : (k : KindWord) → k.validated ≡ true → kind_row k (raised_kind k) ≡ Count
raised_row k live = by k.locked k.pinned refl refl
  where
    by : (a b : Bool) → k.locked ≡ a → k.pinned ≡ b → kind_row k (raised_kind k) ≡ Count
    by true true x y = rw (live, x, y) refl
    by true false x y = rw (live, x, y) refl
    by false true x y = rw (live, x, y) refl
    by false false x y = rw (live, x, y) refl

raised_back : (k : KindWord) → k.number < 2 ^ 26 → k.progress < 2 ^ 10 → kind_fields (kind_write (raised_kind k)) ≡ raised_kind k
raised_back k few short = fields_back (raised_kind k) (omega arith) short

same_test : (x : ℕ) → (x == x) ≡ true
same_test x = grind (arith, nat_tests)

counted_by : (f x new : ℕ) (h : Holdings) → kind_row (kind_fields x) (kind_fields new) ≡ Count → HasTyped f (kind_fields x).kind (after_kind_cas f x new x h)
counted_by f x new h row = rw (same_test x, row) record { newest = _; others = _; typed = refl; frame = refl; kind = refl }

raised_has : (u w : PortValue) (f x : ℕ) → (kind_fields x).validated ≡ true → Moves u w (Kind f) (Cas x (kind_write (raised_kind (kind_fields x)))) kinds.Kind None x → HasTyped f (kind_fields x).kind w.holdings
raised_has u w f x live m =
    let k = kind_fields x in
    let new = kind_write (raised_kind k) in
    let read = spelled_by u.post.machine u.post.vcpu f u.holdings x (kind_read x) (kind_read new) refl m.may.act in
    let back = raised_back k (live_form x k read live).number (fields_in_range x).1 in
    as_typed f k.kind (after_kind_cas f x new x u.holdings) w.holdings (ap (λ (y : PortValue). y.holdings.typed) m.to)
    (counted_by f x new u.holdings (ap (kind_row k) back ∙ raised_row k live))

-- a table is read before it is live
read_first : (level : ℕ) → 1 ≤ level → is_read_first (level_type level) ≡ false → ⊥
read_first zero some off = absurd (omega arith)
read_first (suc zero) some off = absurd cc
read_first (suc (suc zero)) some off = absurd cc
read_first (suc (suc (suc zero))) some off = absurd cc
read_first (suc (suc (suc (suc l)))) some off = absurd cc

last_of : (u w : PortValue) (m : Moment) (f x new : ℕ) → visit_of m ≡ visit (Kind f) (Cas x new) x → MovesBy u w m → Moves u w (Kind f) (Cas x new) kinds.Kind None x
last_of u w m f x new is by = subst (λ (v : Visit). Moves u w v.place v.act v.kind v.mark v.found) is by.moves

first_of : (a : Visit) (vs xs ys : List Visit) → a ∷ vs ≡ xs ++ ys → (b : Visit) → xs ≡ b ∷ [] → a ≡ b
first_of a vs xs ys is b one = cc

none_of : (xs ys : List Visit) (b : Visit) → [] ≡ xs ++ ys → xs ≡ b ∷ [] → ⊥
none_of xs ys b is one = let k : [] ≡ (b ∷ []) ++ ys = is ∙ ap (λ zs. zs ++ ys) one in cc

module _ (v w : PortValue) (f owner level : ℕ) (table : 1 ≤ level) where
  taken_by : (ms : List Moment) → Ran v ms w → (x : ℕ) (stand : Standing) → standing_of (kind_fields x) (level_type level) ≡ stand → IsTakenBy (level_type level) (kind_fields x) stand Counted →
      Then (Only (saw_kind f x)) (λ ts. TakesBy v.post f owner (level_type level) x stand Counted ts) (visits ms) → HasTyped f (level_type level) w.holdings
  taken_by [] ran x stands.Counted stand way steps = absurd (none_of steps.after steps.before _ steps.list steps.next)
  taken_by (m ∷ ms) ran x stands.Counted stand way steps =
      let is = when_counted (kind_fields x) (level_type level) stand in
      let last = last_of ran.0 w m f x (kind_write (raised_kind (kind_fields x))) (first_of (visit_of m) (visits ms) steps.after steps.before steps.list _ steps.next) ran.2 in
      subst (λ t. HasTyped f t w.holdings) is.kind (raised_has ran.0 w f x is.live last)
  taken_by ms ran x stands.Dead stand way steps = absurd (read_first level table way)
  taken_by ms ran x stands.Partial stand way steps = absurd (read_first level table way)
  taken_by ms ran x stands.Busy stand way steps = absurd (read_first level table way)
  taken_by ms ran x stands.Other stand way steps = absurd (read_first level table way)

  pub counted_has : TakesFound v w f owner (level_type level) (Ok Counted) → HasTyped f (level_type level) w.holdings
  unfolding Does
  counted_has found =
      let took = found.2 in
      taken_by found.0 found.1 took.word (standing_of (kind_fields took.word) (level_type level)) refl took.way took.steps

-- ---- the whole acquisition
a_type : (level : ℕ) → 1 ≤ level → IsTrue (not (is_none (level_type level)))
a_type zero some = absurd (omega arith)
a_type (suc zero) some = refl
a_type (suc (suc zero)) some = refl
a_type (suc (suc (suc zero))) some = refl
a_type (suc (suc (suc (suc l)))) some = refl

pub acquired_has : (v w : PortValue) (f owner level : ℕ) (answers : List Bool) (r : Result ℕ Stop) → 1 ≤ level → Acquired v f owner level w answers r → r ≡ Ok f → HasTyped f (level_type level) w.holdings
acquired_has v w f owner level _ _ table (unreferred _ stop ref) e = absurd cc
acquired_has v w f owner level _ _ table (untyped u x _ stop ref type back) e = absurd cc
acquired_has v w f owner level _ _ table (acquiring.counted u _ ref type) e = counted_has u w f owner level table type.found
acquired_has v w f owner level _ _ table (waiting u x _ own stamp stop ref type left) e = absurd cc
acquired_has v w f owner level _ _ table (unfinished u x y _ progress own us answers stop ref type work left) e = absurd cc
acquired_has v w f owner level _ _ table (finished u x y _ progress own t answers ref type work full made) e =
    let top : (t.frame ≡ f) × (t.level ≡ level) = worked_outermost owner f level x (outermost_table f level progress own) y (t ∷ []) answers (Ok tt) work (refl, refl) in
    let typed : IsTrue (not (is_none (level_type t.level))) = subst (λ l. IsTrue (not (is_none (level_type l)))) (sym top.1) (a_type level table) in
    subst (λ l. HasTyped f (level_type l) w.holdings) top.1
    (subst (λ g. HasTyped g (level_type t.level) w.holdings) top.0 (made_live_has y w t.frame (type_counts t.own) made.0 (level_type t.level) typed (few_counts t.own) made.1))
