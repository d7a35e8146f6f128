-- The call at the last recorded entry of the innermost table: what it asks of the hand, and what is released then.
use Rattle.std.proofs.Common.{◌≡◌, ◌≢◌, ℕ, ◌+◌, ◌-◌, ◌≤◌, ◌<◌, List, [], ◌∷◌, ◌++◌, Option, Some, None, Bool, Result, refl, sym, ap, ◌∙◌, subst, arith, inl, inr, IfSome, IfNone}
use Rattle.level_release.proofs.HandsTop.{top, top_table}
use Rattle.table_releases.specs.Tops.{ReleasesTop}
use Rattle.xp_words.specs.PageTypes.{is_table}
use Rattle.std.proofs.lemmas.Bool.{cases_eq}
use Rattle.xp_words.specs.Entries.{below}
use Rattle.xp_words.specs.KindWords.{kind_fields}
use Rattle.xp_words.specs.Places.{Sizes, sizes_of}
use Rattle.xp_words.specs.declared.kind.PageType.{PageType}
use Rattle.xp_words.specs.declared.reply.Stop.{Stop}
use Rattle.xp_board.specs.Hands.{work_on}
use Rattle.xp_board.specs.Lists.{first_by}
use Rattle.xp_board.specs.Readings.{is_type}
use Rattle.xp_board.specs.Told.{PortValue}
use Rattle.xp_board.specs.declared.holdings.Holdings.{Holdings}
use Rattle.xp_board.specs.declared.holdings.Work.{Work}
use Rattle.xp_board.proofs.ListCounts.{first_by-cons_here, first_by-cons_other}
use Rattle.step_maker.specs.Moves.{Came}
use Rattle.step_maker.proofs.Visiting.{does_came}
use Rattle.step_maker.specs.Visits.{Then, Visit}
use Rattle.frame_types.specs.Taking.{IsOfOther}
use Rattle.partial_state.proofs.LevelFacts.{level_type-above}
use Rattle.partial_state.specs.Levels.{level_type}
use Rattle.partial_state.specs.Stacks.{IsStack}
use Rattle.partial_state.specs.declared.stack.TableWork.{TableWork}
use Rattle.table_releases.specs.Found.{ReleasedBy, ReleasesFound}
use Rattle.table_releases.specs.declared.entries.Released.{Released}
use Rattle.level_release.specs.Course.{GaveEntry, Lowered, one_more_done}
use Rattle.level_release.specs.Course as course
use Rattle.level_release.specs.Holding.{AreInRelease, Empties, IsReleasing, StaysEmptying, StaysSettled, outermost_frame}
use Rattle.level_release.proofs.HandsApart.{FirstFound, does_first, list_some}
use Rattle.level_release.proofs.HandsGiven.{given_settled, given_stands, stays_stands}
use Rattle.level_release.proofs.HandsOpened.{opened_settled, opened_stands}

-- ---- each table is of a level above the innermost one's entries
record LevelOf (least : ℕ) (e : Work) : Type 0 where
  pub level : ℕ
  pub low : least ≤ level
  pub high : level ≤ 4
  pub kind : (kind_fields e.word).kind ≡ level_type level

under_low : (t u : TableWork) (us : List TableWork) (least : ℕ) → least ≤ t.level → IsStack (t ∷ u ∷ us) → least ≤ u.level
under_low t u us least low is = let under = is.1 in omega (arith, under, low)

found_level : (z : Sizes) (made : ℕ) (inner : Option TableWork) (g least : ℕ) (ts : List TableWork) (es : List Work) {e : Work} → IsStack ts → ((t : TableWork) (us : List TableWork) → ts ≡ t ∷ us → least ≤ t.level) → AreInRelease z made inner ts es →
    work_on g es ≡ Some e → LevelOf least e
unfolding first_by
found_level z made inner g least [] [] is low are at = absurd cc
found_level z made inner g least [] (x ∷ xs) is low are at = absurd are
found_level z made inner g least (t ∷ ts) [] is low are at = absurd are
found_level z made inner g least (t ∷ ts) (x ∷ xs) {e} is low are at =
    elim (cases_eq x.frame g) [
      | inl same ↦
          let both : Some x ≡ Some e = sym (first_by-cons_here (λ (y : Work). y.frame) g x xs same) ∙ at in
          let this : e ≡ x = cc in
          record { level = t.level; low = low t ts refl; high = is.0.high; kind = ap (λ (y : Work). (kind_fields y.word).kind) this ∙ are.0.kind }
      | inr other ↦
          found_level z made (Some t) g least ts xs is.2
          (λ u us at2. under_low t u us least (low t ts refl) (subst (λ rs. IsStack (t ∷ rs)) at2 is)) are.2
          (sym (first_by-cons_other (λ (y : Work). y.frame) g x xs other) ∙ at)
    ]

least_of : {t u : TableWork} {ts us : List TableWork} → t ∷ ts ≡ u ∷ us → t.level ≤ u.level
least_of {t} {u} are = let same : t ≡ u = cc in subst (λ (k : TableWork). t.level ≤ k.level) same (let k : t.level ≤ t.level = omega arith in k)

pub lower_above : {h : Holdings} {v : PortValue} {t : TableWork} {stack ts : List TableWork} {kind : PageType} → stack ≡ t ∷ ts → kind ≡ level_type t.level → Empties h v stack → (g : ℕ) → IsOfOther g (below kind) v.holdings
lower_above {h} {v} {t} {ts} {kind} are is_kind s g e at =
    let now = subst (λ xs. Empties h v xs) are s in
    let l = found_level (sizes_of v.post.machine) _ None g t.level (t ∷ ts) v.holdings.works now.stack (λ u us same. least_of same) now.tables at in
    ap (λ k. is_type k (below kind)) l.kind ∙ ap (λ k. is_type (level_type l.level) (below k)) is_kind ∙ level_type-above t.level l.level now.stack.0.low l.low l.high

pub lower_works : {h : Holdings} {v : PortValue} {t : TableWork} {ts : List TableWork} {kind : PageType} → kind ≡ level_type t.level → t.done < 512 → Empties h v (t ∷ ts) → ReleasesTop t.frame kind (511 - t.done + 1) v.holdings
lower_works is_kind few s =
    let e = top s in
    let all = e.is.recorded in
    record {
      top = e.work;
      others = e.others;
      works = e.are;
      frame = e.is.frame;
      kind = e.is.kind ∙ sym is_kind;
      table = ap (λ k. is_table k) is_kind ∙ top_table s;
      unmarked = e.is.unmarked;
      recorded = omega (arith, all, few);
    }

pub lower_looked : {h : Holdings} {v : PortValue} {ts : List TableWork} → Empties h v ts → v.holdings.looking ≡ []
lower_looked s = ap (λ (q : PortValue). q.holdings.looking) s.hand ∙ s.looking

-- what the stack lost is what was on top
pub popped_top : {s us ts : List TableWork} {t : TableWork} (o : Option TableWork) → s ≡ t ∷ ts → IfSome o (λ x. s ≡ x ∷ us) → IfNone o ((s ≡ []) × (us ≡ [])) → s ≡ t ∷ us
popped_top {s} {us} {ts} {t} (Some x) are some none = let both : x ∷ us ≡ t ∷ ts = sym some ∙ are in let same : x ≡ t = cc in subst (λ y. s ≡ y ∷ us) same some
popped_top {s} {us} {ts} {t} None are some none = let both : [] ≡ t ∷ ts = sym none.0 ∙ are in absurd cc

-- ---- what the steps found
released_some : (P Q : List Visit → Type 0) (x : Visit) (vs : List Visit) → ((us : List Visit) → P us → us ≡ x ∷ []) → Then P Q vs → vs ≢ []
released_some P Q x vs one t = list_some t.after x (t.list ∙ ap (λ us. t.after ++ us) (one t.before t.first))

pub lower_first : {v : PortValue} (w : PortValue) (f i : ℕ) (kind : PageType) (answer : Result Released Stop) → ReleasesFound v w f i kind answer → FirstFound v
lower_first {v} w f i kind answer found = does_first w (λ vs. ReleasedBy v.post.machine f i kind answer vs) found (λ vs a. released_some _ _ _ vs (λ us is. is) a.1)

-- ---- what is released then
pub gave_came : {v w : PortValue} {t : TableWork} {a : Result Released Stop} → GaveEntry v w t a → Came v w
gave_came {v} {w} e = does_came v w _ e.entry.found

module _ {v w : PortValue} {t : TableWork} {a : Result Released Stop} (few : t.done < 512) (e : GaveEntry v w t a) where
  first : FirstFound v
  first = lower_first w t.frame (511 - t.done) (level_type t.level) a e.entry.found

  all : 511 - t.done + 1 + t.done ≡ 512
  all = omega (arith, few)

more_named : (t : TableWork) (ts : List TableWork) → outermost_frame (one_more_done t ∷ ts) ≡ outermost_frame (t ∷ ts)
more_named t [] = refl
more_named t (u ∷ us) = refl

less_named : (t : TableWork) (ts : List TableWork) → ts ≢ [] → outermost_frame ts ≡ outermost_frame (t ∷ ts)
less_named t [] some = absurd (some refl)
less_named t (u ∷ us) some = refl

-- what is in hand behind one entry, or one table
pub record Lowers (v w : PortValue) (ts us : List TableWork) (answer : Result Bool Stop) : Type 0 where
  pub came : Came v w
  pub stands : StaysEmptying v w ts us
  pub settled : IsReleasing v ts → StaysSettled v w answer
  pub some : ts ≢ []
  pub outer : us ≢ [] → outermost_frame us ≡ outermost_frame ts

pub lowers : {v w : PortValue} {ts us : List TableWork} {answer : Result Bool Stop} → Lowered v ts w us answer → Lowers v w ts us answer
lowers (course.given v w t ts few e) =
    let hand = e.entry.hand in
    record {
      came = gave_came e;
      stands = λ h s. given_stands s (first few e) (511 - t.done) hand.0 (all few e) hand.1 (gave_came e);
      settled = λ is settled. (tt, given_settled is.1 (first few e) (511 - t.done) hand.0 w hand.1);
      some = λ e. absurd cc;
      outer = λ some. more_named t ts;
    }
lowers (course.opened v w t ts f k closing few e) =
    record {
      came = gave_came e;
      stands = λ h s. opened_stands s (first few e) (511 - t.done) (all few e) f k closing w e.entry.hand (gave_came e) e.entry.owned;
      settled = λ is settled. (tt, opened_settled is.1 (first few e) (511 - t.done) (all few e) f k closing w e.entry.hand (e.entry.settled settled));
      some = λ e. absurd cc;
      outer = λ some. more_named t ts;
    }
lowers (course.stopped v w t ts stop few e) =
    let hand = e.entry.hand in
    record {
      came = gave_came e;
      stands = λ h s. stays_stands s (first few e) (511 - t.done) hand.0 hand.1 (gave_came e);
      settled = λ is settled. absurd (e.entry.settled settled);
      some = λ e. absurd cc;
      outer = λ some. refl;
    }
lowers (course.emptied v w t ts all dead) =
    record { came = does_came v w _ dead.found; stands = dead.stands ts; settled = λ is settled. (tt, dead.settled); some = λ e. absurd cc; outer = less_named t ts }
