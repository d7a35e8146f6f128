-- Tables in work: the innermost, what is known of each by its references, and how they stand when steps are noted.
use Rattle.std.proofs.Common.{◌≡◌, ℕ, ◌<◌, ◌≤◌, Bool, true, false, List, [], ◌∷◌, drop, length, Option, Some, None, IsTrue, refl, sym, ap, ◌∙◌, subst, arith, inl, inr, ◌≢◌, ◌+◌, not}
use Rattle.xp_words.specs.Machine.{IsMachine}
use Rattle.xp_words.specs.Places.{Sizes, sizes_of}
use Rattle.xp_words.specs.declared.entry.Demand.TheVariants.{Typed}
use Rattle.xp_board.specs.declared.holdings.Holdings.{Holdings}
use Rattle.xp_board.specs.declared.holdings.Made.{Made}
use Rattle.xp_board.specs.declared.holdings.Reference.{Reference}
use Rattle.xp_board.specs.declared.holdings.TypedReference.{TypedReference}
use Rattle.xp_board.specs.declared.holdings.Work.{Work}
use Rattle.xp_board.specs.Hands.{owner_by, owner_from, ref_owner, ref_to, refs_to, typed_to, typed_owner, without_typed, without_work, work_on}
use Rattle.xp_board.specs.Settling.{is_settled, settles_last}
use Rattle.xp_board.specs.Told.{Post, PortValue}
use Rattle.xp_board.proofs.ListCounts.{first_by-cons_here, newest_held, first_by-cons_other, times_by-cons_other}
use Rattle.step_maker.specs.Holds.{FlushedHolds, MayWork, quiet}
use Rattle.flush_waits.specs.Waiting.{IsKnownOwner}
use Rattle.flush_waits.proofs.Growing.{Grows}
use Rattle.frame_types.specs.Taking.{working_typed, IsOfOther}
use Rattle.kind_words.proofs.KindHands.{typed_held, work_here}
use Rattle.table_entries.proofs.HandReady.{settled_more}
use Rattle.partial_state.specs.declared.stack.TableWork.{TableWork}
use Rattle.partial_state.specs.Levels.{level_type}
use Rattle.partial_state.specs.Stacks.{IsStack}
use Rattle.level_validate.specs.Tables.{IsStanding, AreTables, AreTyped, IsTableWork, Reaches, Carries, TypedFor, innermost, refs_for, taken_on, under_way, IsTopReady}
use Rattle.frame_types.proofs.Entering.{typed_owned}
use Rattle.std.proofs.lemmas.Bool.{cases_eq}
use Rattle.xp_words.specs.Entries.{demand_at, below}
use Rattle.xp_words.specs.KindWords.{is_kind, kind_fields}
use Rattle.xp_words.specs.PageTypes.{is_table}
use Rattle.xp_words.specs.declared.kind.KindWord.{KindWord}
use Rattle.xp_words.specs.declared.kind.PageType.TheVariants.{Desc}
use Rattle.xp_board.specs.KindSteps.{MayKeep, kept_owner}
use Rattle.xp_board.specs.Readings.{domain_of, is_type}
use Rattle.xp_board.proofs.KindReadings.{work_alone}
use Rattle.kind_words.specs.Kinds.{MayLeave, left, partial_kind}
use Rattle.kind_words.proofs.Leaving.{left_partial, may_keep, may_leave_partial, without_newest}
use Rattle.kept_marks.specs.Marks.{IsKeptOf, left_kept}
use Rattle.partial_state.proofs.LevelFacts.{level_type-table, level_type-typed, level_type-above}
use Rattle.level_validate.specs.Unwinding.{left_so}
use Rattle.xp_board.specs.Lists.{first_by, times_by}
use Rattle.table_entries.specs.Tops.{HoldsWorks, WorksAtTop, WorksNext}
use Rattle.xp_board.specs.declared.holdings.OwnerFound.TheVariants as owners
use Rattle.kind_words.proofs.Leaving as leaves

-- ---- the innermost table is the newest of the own works
pub record TopTable (z : Sizes) (steps : List Made) (inner : Option TableWork) (t : TableWork) (ts : List TableWork) (works : List Work) : Type 0 where
  pub work : Work
  pub others : List Work
  pub are : works ≡ work ∷ others
  pub is : IsTableWork z t work
  pub reaches : Reaches z steps t work inner
  pub around : AreTables z steps (Some t) ts others

pub tables_top : (z : Sizes) (steps : List Made) (inner : Option TableWork) (t : TableWork) (ts : List TableWork) (works : List Work) → AreTables z steps inner (t ∷ ts) works → TopTable z steps inner t ts works
tables_top z steps inner t ts [] are = absurd are
tables_top z steps inner t ts (e ∷ es) are = record { work = e; others = es; are = refl; is = are.0; reaches = are.1; around = are.2 }

pub tables_none : (z : Sizes) (steps : List Made) (inner : Option TableWork) (works : List Work) → AreTables z steps inner [] works → works ≡ []
tables_none z steps inner [] are = refl
tables_none z steps inner (e ∷ es) are = absurd are

-- ---- more steps
last_more : (z : Sizes) (e : Work) (h k : Holdings) → Grows h k → IsTrue (settles_last z e h.steps e.unsettled) → IsTrue (settles_last z e k.steps e.unsettled)
unfolding is_settled
last_more z e h k grows s = settled_more z h k e grows s

reaches_later : (z : Sizes) (t : TableWork) (e : Work) (inner : Option TableWork) (h k : Holdings) → Grows h k → length h.steps ≤ length k.steps → Reaches z h.steps t e inner → Reaches z k.steps t e inner
reaches_later z t e inner h k grows longer (innermost all) = innermost all
reaches_later z t e inner h k grows longer (under_way g word new next settled seen asks) = under_way g word new next (last_more z e h k grows settled) seen asks
reaches_later z t e inner h k grows longer (taken_on g word old all some last seen asks) = taken_on g word old all some last seen asks

pub tables_later : (z : Sizes) (inner : Option TableWork) (ts : List TableWork) (es : List Work) (h k : Holdings) → Grows h k → length h.steps ≤ length k.steps → AreTables z h.steps inner ts es → AreTables z k.steps inner ts es
tables_later z inner [] [] h k grows longer are = are
tables_later z inner [] (e ∷ es) h k grows longer are = absurd are
tables_later z inner (t ∷ ts) [] h k grows longer are = absurd are
tables_later z inner (t ∷ ts) (e ∷ es) h k grows longer are = (are.0, reaches_later z t e inner h k grows longer are.1, tables_later z (Some t) ts es h k grows longer are.2)

typed_for_later : (own : Bool) (m n owner : ℕ) (t : TableWork) (P Q : List TypedReference → Type 0) (ys : List TypedReference) → m ≤ n → ((zs : List TypedReference) → P zs → Q zs) → TypedFor own m owner t P ys → TypedFor own n owner t Q ys
typed_for_later true m n owner t P Q ys longer f are = (are.0, let low = are.1 in omega (arith, low, longer), are.2, are.3, f are.2 are.4)
typed_for_later false m n owner t P Q ys longer f are = (are.0, f ys are.1)

pub typed_later : (m n owner : ℕ) (ts : List TableWork) (ys : List TypedReference) → m ≤ n → AreTyped m owner ts ys → AreTyped n owner ts ys
typed_later m n owner [] ys longer are = are
typed_later m n owner (t ∷ ts) ys longer are = typed_for_later t.own m n owner t (AreTyped m owner ts) (AreTyped n owner ts) ys longer (λ zs. typed_later m n owner ts zs longer) are

-- ---- references
pub refs_own : (owner : ℕ) (t : TableWork) (ts : List TableWork) (rs : List Reference) → t.own ≡ true → refs_for owner (t ∷ ts) rs ≡ refs_for owner ts rs
refs_own owner t ts rs own = rw own refl

pub refs_lent : (owner : ℕ) (t : TableWork) (ts : List TableWork) (rs : List Reference) → t.own ≡ false → refs_for owner (t ∷ ts) rs ≡ record { frame = t.frame; owner = owners.Of owner } ∷ refs_for owner ts rs
refs_lent owner t ts rs lent = rw lent refl

-- the type count of the innermost table
pub record TopTyped (made owner : ℕ) (t : TableWork) (ts : List TableWork) (ys : List TypedReference) : Type 0 where
  pub since : ℕ
  pub low : since ≤ made
  pub others : List TypedReference
  pub are : ys ≡ working_typed t.frame owner (level_type t.level) since ∷ others
  pub around : AreTyped made owner ts others

pub typed_own : (made owner : ℕ) (t : TableWork) (ts : List TableWork) (ys : List TypedReference) → t.own ≡ true → AreTyped made owner (t ∷ ts) ys → TopTyped made owner t ts ys
typed_own made owner t ts ys own are =
    let y = subst (λ b. TypedFor b made owner t (AreTyped made owner ts) ys) own are in record { since = y.0; low = y.1; others = y.2; are = y.3; around = y.4 }

pub typed_lent : (made owner : ℕ) (t : TableWork) (ts : List TableWork) (ys : List TypedReference) → t.own ≡ false → AreTyped made owner (t ∷ ts) ys → (typed_to t.frame ys ≡ 0) × AreTyped made owner ts ys
typed_lent made owner t ts ys lent are = subst (λ b. TypedFor b made owner t (AreTyped made owner ts) ys) lent are

-- ---- owners
pub ref_owned : (f owner : ℕ) (e : Reference) (rs : List Reference) (h : Holdings) → h.refs ≡ e ∷ rs → e.frame ≡ f → e.owner ≡ owners.Of owner → ref_owner f h ≡ owners.Of owner
ref_owned f owner e rs h refs frame owned =
    ap (λ o. owner_by o (owner_from h)) (ap (λ xs. ref_to f xs) refs ∙ first_by-cons_here (λ (y : Reference). y.frame) f e rs frame) ∙ owned

-- the owner of the innermost table is known by its reference
pub top_known : (made owner : ℕ) (t : TableWork) (ts : List TableWork) (rs : List Reference) (h : Holdings) → h.refs ≡ refs_for owner (t ∷ ts) rs → AreTyped made owner (t ∷ ts) h.typed → IsKnownOwner t.frame owner h
top_known made owner t ts rs h refs typed = by t.own refl
  where
    by : (b : Bool) → t.own ≡ b → IsKnownOwner t.frame owner h
    by true own =
        let y = typed_own made owner t ts h.typed own typed in
        let e = working_typed t.frame owner (level_type t.level) y.since in
        inr (subst (λ xs. 0 < typed_to t.frame xs) (sym y.are) (typed_held t.frame e y.others refl), typed_owned t.frame owner e y.others h y.are refl refl)
    by false lent =
        let is = refs ∙ refs_lent owner t ts rs lent in
        inl (
          subst (λ xs. 0 < refs_to t.frame xs) (sym is) (newest_held t.frame (record { frame = t.frame; owner = owners.Of owner }) (refs_for owner ts rs) refl),
          ref_owned t.frame owner (record { frame = t.frame; owner = owners.Of owner }) (refs_for owner ts rs) h is refl refl,
        )

-- ---- another hand of these parts

-- other tables stand then
pub stands_by : (v w d : PortValue) (owner : ℕ) (ts us : List TableWork) (rs : List Reference) (ys : List TypedReference) (ws : List Work) → Carries v w owner ts → FlushedHolds w d (record w.holdings { refs = rs; typed = ys; works = ws }) →
    IsStack us → AreTables (sizes_of v.post.machine) d.holdings.steps None us ws → rs ≡ refs_for owner us v.holdings.refs → AreTyped (length d.holdings.steps) owner us ys → Carries v d owner us
stands_by v w d owner ts us rs ys ws s hand stack tables refs typed =
    record {
      idle = s.idle;
      stack = stack;
      tables = subst (λ xs. AreTables (sizes_of v.post.machine) d.holdings.steps None us xs) (sym (ap (λ (q : PortValue). q.holdings.works) hand)) tables;
      refs = ap (λ (q : PortValue). q.holdings.refs) hand ∙ refs;
      typed = subst (λ xs. AreTyped (length d.holdings.steps) owner us xs) (sym (ap (λ (q : PortValue). q.holdings.typed) hand)) typed;
      hand = hand ∙ ap (λ (q : PortValue). quiet (record q { holdings = record q.holdings { refs = rs; typed = ys; works = ws } })) s.hand
          ∙ ap (λ (q : PortValue). quiet (record v { holdings = record v.holdings { refs = q.holdings.refs; typed = q.holdings.typed; works = q.holdings.works } })) (sym hand);
    }

pub stands_post : (v w : PortValue) (owner : ℕ) (ts : List TableWork) → Carries v w owner ts → w.post ≡ v.post
stands_post v w owner ts s = ap (λ (q : PortValue). q.post) s.hand

-- ---- a table with another number of entries that are done with
pub inner_is : (h g : TableWork) → Some h ≡ Some g → h ≡ g
inner_is h g is = cc

reaches_inner : (z : Sizes) (steps : List Made) (t : TableWork) (e : Work) (g : TableWork) (n : ℕ) (o : Option TableWork) → o ≡ Some g → Reaches z steps t e o → Reaches z steps t e (Some (record g { done = n }))
reaches_inner z steps t e g n o is (innermost all) = absurd cc
reaches_inner z steps t e g n o is (under_way h word new next settled seen asks) =
    let same = inner_is h g is in
    under_way (record g { done = n }) word (ap (λ (y : TableWork). y.recorded) (sym same) ∙ new) next settled seen (asks ∙ ap (λ (y : TableWork). Typed y.frame (level_type y.level)) same)
reaches_inner z steps t e g n o is (taken_on h word old all some last seen asks) =
    let same = inner_is h g is in
    taken_on (record g { done = n }) word (ap (λ (y : TableWork). y.recorded) (sym same) ∙ old) all some last seen (asks ∙ ap (λ (y : TableWork). Typed y.frame (level_type y.level)) same)

-- the tables around it stay
pub tables_inner : (z : Sizes) (steps : List Made) (g : TableWork) (n : ℕ) (ts : List TableWork) (es : List Work) → AreTables z steps (Some g) ts es → AreTables z steps (Some (record g { done = n })) ts es
tables_inner z steps g n [] [] are = are
tables_inner z steps g n [] (e ∷ es) are = absurd are
tables_inner z steps g n (t ∷ ts) [] are = absurd are
tables_inner z steps g n (t ∷ ts) (e ∷ es) are = (are.0, reaches_inner z steps t e g n (Some g) refl are.1, are.2)

pub work_done : (z : Sizes) (t : TableWork) (e : Work) (n : ℕ) → IsTableWork z t e → IsTableWork z (record t { done = n }) e
work_done z t e n is = record { inside = is.inside; frame = is.frame; work = is.work; kind = is.kind; unmarked = is.unmarked; lent = is.lent }

pub refs_done : (owner : ℕ) (t : TableWork) (n : ℕ) (ts : List TableWork) (rs : List Reference) → refs_for owner (t ∷ ts) rs ≡ refs_for owner (record t { done = n } ∷ ts) rs
refs_done owner t n ts rs = refl

typed_for_done : (own : Bool) (made owner : ℕ) (t : TableWork) (n : ℕ) (P : List TypedReference → Type 0) (ys : List TypedReference) → TypedFor own made owner t P ys → TypedFor own made owner (record t { done = n }) P ys
typed_for_done true made owner t n P ys are = are
typed_for_done false made owner t n P ys are = are

pub typed_done : (made owner : ℕ) (t : TableWork) (n : ℕ) (ts : List TableWork) (ys : List TypedReference) → AreTyped made owner (t ∷ ts) ys → AreTyped made owner (record t { done = n } ∷ ts) ys
typed_done made owner t n ts ys are = typed_for_done t.own made owner t n (AreTyped made owner ts) ys are

-- the vCPU may work before and after alike
pub may_back : (v w : PortValue) (owner : ℕ) (ts : List TableWork) → Carries v w owner ts → MayWork w → MayWork v
may_back v w owner ts s m =
    record {
      running = sym (ap (λ (q : PortValue). q.holdings.run) s.hand) ∙ m.running;
      no_walk = sym (ap (λ (q : PortValue). q.holdings.walk) s.hand) ∙ m.no_walk;
      machine = subst (λ (p : Post). IsMachine p.machine) (stands_post v w owner ts s) m.machine;
    }

pub may_stands : (v w : PortValue) (owner : ℕ) (ts : List TableWork) → Carries v w owner ts → MayWork v → MayWork w
may_stands v w owner ts s m =
    record {
      running = ap (λ (q : PortValue). q.holdings.run) s.hand ∙ m.running;
      no_walk = ap (λ (q : PortValue). q.holdings.walk) s.hand ∙ m.no_walk;
      machine = subst (λ (p : Post). IsMachine p.machine) (sym (stands_post v w owner ts s)) m.machine;
    }

-- no table is left
pub stands_none : (v w : PortValue) (owner : ℕ) → Carries v w owner [] → FlushedHolds v w v.holdings
stands_none v w owner s =
    s.hand ∙ ap (λ rs. quiet (record v { holdings = record v.holdings { refs = rs; typed = w.holdings.typed; works = w.holdings.works } })) s.refs
    ∙ ap (λ ys. quiet (record v { holdings = record v.holdings { typed = ys; works = w.holdings.works } })) (s.typed ∙ sym s.idle.typed)
    ∙ ap (λ ws. quiet (record v { holdings = record v.holdings { works = ws } })) (tables_none (sizes_of v.post.machine) w.holdings.steps None w.holdings.works s.tables ∙ sym s.idle.works)

-- The innermost table is left partial: when it may be, and what is in hand then.
-- ---- how far a table is recorded
pub reaches_all : (z : Sizes) (steps : List Made) (t : TableWork) (e : Work) (o : Option TableWork) → o ≡ None → Reaches z steps t e o → e.recorded ≡ t.done
reaches_all z steps t e o none (innermost all) = all
reaches_all z steps t e o none (under_way g word new next settled seen asks) = absurd cc
reaches_all z steps t e o none (taken_on g word old all some last seen asks) = absurd cc

-- all, where the inner one was recorded before
pub reaches_taken : (z : Sizes) (steps : List Made) (t : TableWork) (e : Work) (g : TableWork) (o : Option TableWork) → o ≡ Some g → g.recorded ≡ true → Reaches z steps t e o → e.recorded ≡ t.done
reaches_taken z steps t e g o inner old (innermost all) = all
reaches_taken z steps t e g o inner old (under_way h word new next settled seen asks) = absurd cc
reaches_taken z steps t e g o inner old (taken_on h word old2 all some last seen asks) = all

-- or all but the entry that is under way
pub record UnderWay (z : Sizes) (steps : List Made) (t : TableWork) (e : Work) (g : TableWork) : Type 0 where
  pub word : ℕ
  pub next : e.recorded + 1 ≡ t.done
  pub settled : IsTrue (settles_last z e steps e.unsettled)
  pub seen : e.seen ≡ Some (record { index = e.recorded; word = word })
  pub asks : demand_at (level_type t.level) e.recorded word ≡ Typed g.frame (level_type g.level)

pub reaches_under : (z : Sizes) (steps : List Made) (t : TableWork) (e : Work) (g : TableWork) (o : Option TableWork) → o ≡ Some g → g.recorded ≡ false → Reaches z steps t e o → UnderWay z steps t e g
reaches_under z steps t e g o inner new (innermost all) = absurd cc
reaches_under z steps t e g o inner new (under_way h word new2 next settled seen asks) =
    record { word = word; next = next; settled = settled; seen = seen; asks = asks ∙ ap (λ (y : TableWork). Typed y.frame (level_type y.level)) (inner_is h g inner) }
reaches_under z steps t e g o inner new (taken_on h word old all some last seen asks) = absurd cc

-- no level is that of a descriptor page
pub level_type-unpaged : (l : ℕ) → 1 ≤ l → level_type l ≢ Desc
level_type-unpaged l low is = let no : true ≡ false = sym (level_type-table l low) ∙ ap is_table is in absurd cc

-- ---- the store
module _ {v w : PortValue} {owner : ℕ} {t : TableWork} {ts : List TableWork} (s : Carries v w owner (t ∷ ts)) where
  pub top : TopTable (sizes_of v.post.machine) w.holdings.steps None t ts w.holdings.works
  top = tables_top (sizes_of v.post.machine) w.holdings.steps None t ts w.holdings.works s.tables

  pub top_here : work_on t.frame w.holdings.works ≡ Some top.work
  top_here = work_here t.frame top.work top.others w.holdings.works top.is.frame top.are

  pub top_gone : without_work t.frame w.holdings.works ≡ top.others
  top_gone = without_newest (λ (y : Work). y.frame) t.frame top.work top.others w.holdings.works top.is.frame top.are

  pub top_done : top.work.recorded ≡ t.done
  top_done = reaches_all (sizes_of v.post.machine) w.holdings.steps t top.work None refl top.reaches

  pub top_inside : t.frame < w.post.machine.frames
  top_inside = subst (λ (p : Post). t.frame < p.machine.frames) (sym (stands_post v w owner (t ∷ ts) s)) top.is.inside

  pub top_table : is_table (level_type t.level) ≡ true
  top_table = level_type-table t.level s.stack.0.low

  -- it is no descriptor page
  pub top_unpaged : level_type t.level ≢ Desc
  top_unpaged = level_type-unpaged t.level s.stack.0.low

  pub top_typed : t.own ≡ true → TopTyped (length w.holdings.steps) owner t ts w.holdings.typed
  top_typed own = typed_own (length w.holdings.steps) owner t ts w.holdings.typed own s.typed

  pub top_held : t.own ≡ true → 0 < typed_to t.frame w.holdings.typed
  top_held own = let y = top_typed own in subst (λ xs. 0 < typed_to t.frame xs) (sym y.are) (typed_held t.frame (working_typed t.frame owner (level_type t.level) y.since) y.others refl)

  pub top_owned : t.own ≡ true → typed_owner t.frame w.holdings ≡ owners.Of owner
  top_owned own = let y = top_typed own in typed_owned t.frame owner (working_typed t.frame owner (level_type t.level) y.since) y.others w.holdings y.are refl refl

  module _ (kept : Bool) (mine : kept ≡ true → t.own ≡ true) where
    keeps : kept ≡ true → MayKeep t.frame top.work w.holdings
    keeps on = let own = mine on in may_keep t.frame top.work w.holdings owner top.is.work (top_held own) (top_owned own)

    few : top.work.recorded ≤ 512
    few = let low = s.stack.0.done in let is = top_done in omega (arith, low, is)

    pub top_leaves : MayLeave w t.frame (partial_kind (level_type t.level) kept false t.done 0)
    top_leaves =
        subst (λ n. MayLeave w t.frame (partial_kind (level_type t.level) kept false n 0)) top_done
        (may_leave_partial w t.frame (level_type t.level) top.work top_here (level_type-typed t.level) top.is.kind kept keeps top_table few (inl top.is.unmarked) (λ closing. absurd (let off = work_alone (kind_fields top.work.word) top.is.work in cc)))

    pub top_spelled : IsTrue (is_kind (partial_kind (level_type t.level) kept false t.done 0))
    top_spelled = top_leaves.is

  -- without a mark
  pub top_left : left w t.frame (partial_kind (level_type t.level) false false t.done 0) ≡ left_so t.frame w.holdings
  top_left = left_partial w t.frame (level_type t.level) top.work top_here false t.done 0 top.is.work (top_spelled false (λ on. absurd cc))

  pub top_looking : w.holdings.looking ≡ []
  top_looking = ap (λ (q : PortValue). q.holdings.looking) s.hand ∙ s.idle.looking

  -- with a mark, which has its type count
  module _ (own : t.own ≡ true) where
    abbrev k : KindWord
    k = partial_kind (level_type t.level) true false t.done 0

    pub top_kept_owner : IsKeptOf w t.frame owner
    top_kept_owner e here =
        let same : top.work ≡ e = (let both : Some top.work ≡ Some e = sym top_here ∙ here in cc) in
        subst (λ (y : Work). kept_owner t.frame y w.holdings ≡ owners.Of owner) same
        (rw (work_alone (kind_fields top.work.word) top.is.work) (top_owned own))

    abbrev gone : Holdings
    gone = record w.holdings { typed = without_typed t.frame w.holdings.typed; works = without_work t.frame w.holdings.works; looking = [] }

    left_gone : left_kept w t.frame k ≡ gone
    left_gone =
        elim (cases_eq owner (domain_of w.post.machine w.post.vcpu)) [
          | inl same ↦ ap (λ (h : Holdings). record h { looking = [] }) (leaves.left_kept w t.frame (level_type t.level) top.work top_here false t.done 0 top.is.work (top_spelled true (λ on. own)) (top_owned own ∙ ap (λ o. owners.Of o) same))
          | inr off ↦ ap (λ (h : Holdings). record h { looking = [] }) (leaves.left_kept_other w t.frame (level_type t.level) top.work top_here false t.done 0 top.is.work owner (top_spelled true (λ on. own)) (top_owned own) off)
        ]

    pub top_kept : left_kept w t.frame k ≡ record w.holdings { typed = without_typed t.frame w.holdings.typed; works = without_work t.frame w.holdings.works }
    top_kept = left_gone ∙ ap (λ xs. record w.holdings { typed = without_typed t.frame w.holdings.typed; works = without_work t.frame w.holdings.works; looking = xs }) (sym top_looking)

-- ---- what a test says

pub is_so : (b : Bool) → not b ≡ false → b ≡ true
is_so true e = refl
is_so false e = absurd cc

-- What the call at an entry asks of the hand: the tables in work have it.
-- ---- a list without that number
none_here : {A : Type 0} (x : A) (o : Option A) → o ≡ Some x → o ≡ None → ⊥
none_here x o a b = absurd cc

pub apart_first : (g : ℕ) (e : Work) (es : List Work) → work_on g (e ∷ es) ≡ None → (e.frame ≢ g) × (work_on g es ≡ None)
apart_first g e es none =
    elim (cases_eq e.frame g) [
      | inl same ↦ absurd (none_here e (work_on g (e ∷ es)) (first_by-cons_here (λ (y : Work). y.frame) g e es same) none)
      | inr other ↦ (other, sym (first_by-cons_other (λ (y : Work). y.frame) g e es other) ∙ none)
    ]

-- ---- each typed reference is one to a table in work
typed_none : (own : Bool) (made owner g : ℕ) (t : TableWork) (P : List TypedReference → Type 0) (ys : List TypedReference) → t.frame ≢ g → ((zs : List TypedReference) → P zs → typed_to g zs ≡ 0) →
    TypedFor own made owner t P ys → typed_to g ys ≡ 0
typed_none true made owner g t P ys other f are =
    ap (λ xs. typed_to g xs) are.3 ∙ times_by-cons_other (λ (y : TypedReference). y.frame) g (working_typed t.frame owner (level_type t.level) are.0) are.2 other ∙ f are.2 are.4
typed_none false made owner g t P ys other f are = f ys are.1

pub typed_works : (z : Sizes) (steps : List Made) (inner : Option TableWork) (made owner g : ℕ) (ts : List TableWork) (es : List Work) (ys : List TypedReference) → AreTables z steps inner ts es → AreTyped made owner ts ys →
    work_on g es ≡ None → typed_to g ys ≡ 0
unfolding times_by
typed_works z steps inner made owner g [] es ys are typed none = rw typed refl
typed_works z steps inner made owner g (t ∷ ts) [] ys are typed none = absurd are
typed_works z steps inner made owner g (t ∷ ts) (e ∷ es) ys are typed none =
    let apart = apart_first g e es none in
    typed_none t.own made owner g t (AreTyped made owner ts) ys (λ same. apart.0 (are.0.frame ∙ same)) (λ zs rest. typed_works z steps (Some t) made owner g ts es zs are.2 rest apart.1) typed

-- ---- each is of a level above the innermost one's entries
pub record LevelOf (low : ℕ) (e : Work) : Type 0 where
  pub level : ℕ
  pub least : low ≤ level
  pub most : level ≤ 4
  pub kind : (kind_fields e.word).kind ≡ level_type level

some_is : (x y : Work) → Some x ≡ Some y → y ≡ x
some_is x y is = cc

under_low : (t : TableWork) (ts : List TableWork) (low : ℕ) → low ≤ t.level → IsStack (t ∷ ts) → (u : TableWork) (us : List TableWork) → ts ≡ u ∷ us → low ≤ u.level
under_low t ts low least is u us are =
    let s = subst (λ xs. IsStack (t ∷ xs)) are is in
    let under = s.1 in
    omega (arith, under, least)

pub found_level : (z : Sizes) (steps : List Made) (inner : Option TableWork) (g low : ℕ) (t : TableWork) (ts : List TableWork) (es : List Work) (e : Work) → IsStack (t ∷ ts) → low ≤ t.level → AreTables z steps inner (t ∷ ts) es →
    work_on g es ≡ Some e → LevelOf low e
unfolding first_by
found_level z steps inner g low t ts [] e is least are at = absurd are
found_level z steps inner g low t [] (x ∷ xs) e is least are at =
    elim (cases_eq x.frame g) [
      | inl same ↦
          let this = some_is x e (sym (first_by-cons_here (λ (y : Work). y.frame) g x xs same) ∙ at) in
          record { level = t.level; least = least; most = is.0.high; kind = ap (λ (y : Work). (kind_fields y.word).kind) this ∙ are.0.kind }
      | inr other ↦ absurd (no_more xs are.2 (sym (first_by-cons_other (λ (y : Work). y.frame) g x xs other) ∙ at))
    ]
  where
    no_more : (ws : List Work) → AreTables z steps (Some t) [] ws → work_on g ws ≡ Some e → ⊥
    no_more [] are at = absurd cc
    no_more (w ∷ ws) are at = are
found_level z steps inner g low t (u ∷ us) (x ∷ xs) e is least are at =
    elim (cases_eq x.frame g) [
      | inl same ↦
          let this = some_is x e (sym (first_by-cons_here (λ (y : Work). y.frame) g x xs same) ∙ at) in
          record { level = t.level; least = least; most = is.0.high; kind = ap (λ (y : Work). (kind_fields y.word).kind) this ∙ are.0.kind }
      | inr other ↦ found_level z steps (Some t) g low u us xs e is.2 (under_low t (u ∷ us) low least is u us refl) are.2 (sym (first_by-cons_other (λ (y : Work). y.frame) g x xs other) ∙ at)
    ]

-- ---- the hand
module _ {v w : PortValue} {owner : ℕ} {t : TableWork} {ts : List TableWork} (s : Carries v w owner (t ∷ ts)) where
  pub standing_top : WorksAtTop t.frame (level_type t.level) t.done w.holdings
  standing_top =
      let e = top s in
      record {
        top = e.work;
        others = e.others;
        works = e.are;
        frame = e.is.frame;
        in_work = e.is.work;
        kind = e.is.kind;
        table = level_type-table t.level s.stack.0.low;
        unmarked = e.is.unmarked;
        recorded = top_done s;
      }

  pub standing_next : IsTopReady w → WorksNext w.post.machine t.frame (level_type t.level) t.done w.holdings
  unfolding standing_top
  standing_next ready = let e = top s in record { on = standing_top; settled = ready e.work e.others e.are }

  pub standing_known : IsKnownOwner t.frame owner w.holdings
  standing_known = top_known (length w.holdings.steps) owner t ts v.holdings.refs w.holdings s.refs s.typed

  pub standing_held : HoldsWorks w.holdings
  standing_held g none = typed_works (sizes_of v.post.machine) w.holdings.steps None (length w.holdings.steps) owner g (t ∷ ts) w.holdings.works w.holdings.typed s.tables s.typed none

  pub standing_above : (g : ℕ) → IsOfOther g (below (level_type t.level)) w.holdings
  standing_above g e at =
      let l = found_level (sizes_of v.post.machine) w.holdings.steps None g t.level t ts w.holdings.works e s.stack (let k : t.level ≤ t.level = omega arith in k) s.tables at in
      ap (λ k. is_type k (below (level_type t.level))) l.kind ∙ level_type-above t.level l.level s.stack.0.low l.least l.most

  pub standing_looked : w.holdings.looking ≡ []
  standing_looked = ap (λ (q : PortValue). q.holdings.looking) s.hand ∙ s.idle.looking

-- from a stack of which that table is the top
pub stack_top : {w : PortValue} {owner : ℕ} {t : TableWork} {stack : List TableWork} → stack ≡ t ∷ drop 1 stack → IsStanding w owner stack → WorksAtTop t.frame (level_type t.level) t.done w.holdings
stack_top {w} {owner} is a = standing_top (subst (λ xs. Carries a.0 w owner xs) is a.1)
