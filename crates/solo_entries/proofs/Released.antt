-- Words of vCPUs that a release leaves as they are: all but the first old word, and that one, too, where it is done.
use Rattle.std.proofs.Common.{◌≢◌, ℕ, ◌-◌, ◌==◌, if◌then◌else◌, Bool, true, false, List, [], ◌∷◌, Option, Result, Ok, Err, refl, sym, ◌∙◌, subst}
use Rattle.xp_words.specs.Entries.{demand_at}
use Rattle.xp_words.specs.KindWords.{kind_fields}
use Rattle.xp_words.specs.PageTypes.{is_table}
use Rattle.xp_words.specs.declared.entry.Demand.{Demand}
use Rattle.xp_words.specs.declared.entry.Demand.TheVariants as demands
use Rattle.xp_words.specs.declared.kind.PageType.{PageType}
use Rattle.xp_words.specs.declared.place.Place.TheVariants.{Cell, Clock, Kind, Refs, Vcpu}
use Rattle.xp_words.specs.declared.reply.Stop.{Stop}
use Rattle.xp_board.specs.KindSteps.{Form, InWork, Live, Partial, Dead, form_of}
use Rattle.xp_board.specs.Told.{PortValue, told_word}
use Rattle.step_maker.specs.Plain.{Leaves, Words}
use Rattle.step_maker.specs.Visits.{Then}
use Rattle.step_maker.proofs.Visiting.{does_came}
use Rattle.frame_claims.proofs.Telling.{Alls, alls_one, alls_then}
use Rattle.frame_words.specs.Freeing.{PutBy}
use Rattle.frame_words.specs.Plain.{put, stamp_now}
use Rattle.frame_types.specs.Found.{Dies}
use Rattle.frame_types.specs.Plain.{dropped_plain, set_kind}
use Rattle.kind_words.specs.Kinds.{dead_kind}
use Rattle.level_release.specs.Course as release
use Rattle.level_release.specs.Course.{Emptied, GaveEntry, LeftInside, Lowered, MadeDead, RanDown, ReleasedWithin, StoredPartial, UnwoundDown, one_less}
use Rattle.partial_state.specs.Levels.{level_type}
use Rattle.partial_state.specs.declared.stack.TableWork.{TableWork}
use Rattle.table_releases.specs.Found.{has_recorded}
use Rattle.table_releases.specs.Plain.{FormPlainly, LivePlainly, LowersPlainly, PartialPlainly, ReleasesPlainly, lowered_type, resumed_words}
use Rattle.table_releases.specs.declared.entries.Released.{Released}
use Rattle.solo_entries.proofs.Olds.{Elsewhere, Keeps, Same, by_leaves, does_keeps, dropped_by, gave_keeps, gave_type_keeps, keeps_by, keeps_self, keeps_then, moves_keeps, named_keeps, puts_apart, stores_apart}
use Rattle.solo_entries.proofs.Standing.{put_same}

module _ (s k : ℕ) (four : k ≢ 4) (five : k ≢ 5) where
  -- ---- one entry
  drops_same : (w : PortValue) (m : Words) (g : ℕ) (t : PageType) → Leaves w (dropped_plain g t m) → Same s k four five m (told_word w)
  drops_same w m g t a =
      let b = (kind_fields (m (Kind g))).number == 1 in
      let j = dead_kind t false (stamp_now m) in
      by_leaves s k four five w m (dropped_plain g t m) a (put_same g (if b then set_kind g j (lowered_type g m) else lowered_type g m) (Vcpu s k) refl ∙ dropped_by s k four five b g j m)

  lowers_same : (w : PortValue) (m : Words) (g : ℕ) (r : Result Released Stop) (b : Bool) → LowersPlainly w m g r b → Same s k four five m (told_word w)
  lowers_same w m g r true a = by_leaves s k four five w m (lowered_type g m) a.1 refl
  lowers_same w m g r false a = by_leaves s k four five w m (put g (lowered_type g m)) a.1 (put_same g (lowered_type g m) (Vcpu s k) refl)

  live_same : (w : PortValue) (m : Words) (g : ℕ) (t : PageType) (r : Result Released Stop) (b : Bool) → LivePlainly w m g t r b → Same s k four five m (told_word w)
  live_same w m g t r true a = lowers_same w m g r ((kind_fields (m (Kind g))).number == 1) a
  live_same w m g t r false a = drops_same w m g t a.1

  partial_same : (w : PortValue) (m : Words) (g : ℕ) (t : PageType) (r : Result Released Stop) (b : Bool) → PartialPlainly w m g t r b → Same s k four five m (told_word w)
  partial_same w m g t r true a = by_leaves s k four five w m (resumed_words g m) a.2 refl
  partial_same w m g t r false a =
      let l = set_kind g (dead_kind t (kind_fields (m (Kind g))).unflushed (stamp_now m)) (resumed_words g m) in
      by_leaves s k four five w m (put g l) a.1 (put_same g l (Vcpu s k) refl)

  form_same : (w : PortValue) (m : Words) (g : ℕ) (t : PageType) (r : Result Released Stop) (f : Form) → FormPlainly w m g t r f → Same s k four five m (told_word w)
  form_same w m g t r Live a = live_same w m g t r (is_table t) a
  form_same w m g t r Partial a = partial_same w m g t r (has_recorded t (kind_fields (m (Kind g)))) a
  form_same w m g t r InWork a = a.1 (Vcpu s k)
  form_same w m g t r Dead a = a.1 (Vcpu s k)

  releases_same : (w : PortValue) (m : Words) (r : Result Released Stop) (d : Demand) → ReleasesPlainly w m r d → Same s k four five m (told_word w)
  releases_same w m r demands.Nothing a = a.1 (Vcpu s k)
  releases_same w m r demands.Bad a = a.1 (Vcpu s k)
  releases_same w m r (demands.Read g) a = by_leaves s k four five w m (put g m) a.1 (put_same g m (Vcpu s k) refl)
  releases_same w m r (demands.Typed g t) a = form_same w m g t r (form_of (kind_fields (m (Kind g)))) a

  entry_keeps : (v w : PortValue) (t : TableWork) (r : Result Released Stop) → GaveEntry v w t r → Keeps s k four five v w
  entry_keeps v w t r a =
      keeps_by s k four five v w (does_came v w _ a.entry.found)
      (λ telling. releases_same w (told_word v) r (demand_at (level_type t.level) (511 - t.done) (told_word v (Cell t.frame (511 - t.done)))) (a.entry.plain telling))

  dies_apart : (f : ℕ) (t : PageType) (marked : Bool) → Alls (Elsewhere s k four five) (Dies f t marked)
  dies_apart f t marked vs a =
      alls_then (Elsewhere s k four five) _ _ (alls_one (Elsewhere s k four five) _ (λ e. cc)) (stores_apart s k four five f (dead_kind t marked a.0)) vs a.1

  dead_keeps : (v w : PortValue) (t : TableWork) → MadeDead v w t → Keeps s k four five v w
  dead_keeps v w t a =
      does_keeps s k four five v w (λ vs. Then (Dies t.frame (level_type t.level) false) (PutBy t.frame) vs)
      (alls_then (Elsewhere s k four five) (Dies t.frame (level_type t.level) false) (PutBy t.frame) (dies_apart t.frame (level_type t.level) false) (puts_apart s k four five t.frame)) a.found

  -- ---- until no table is left
  lowered_keeps : (v : PortValue) (ts : List TableWork) (w : PortValue) (us : List TableWork) (r : Result Bool Stop) → Lowered v ts w us r → Keeps s k four five v w
  lowered_keeps _ _ _ _ _ (release.given v w t ts few a) = entry_keeps v w t _ a
  lowered_keeps _ _ _ _ _ (release.opened v w t ts f recorded closing few a) = entry_keeps v w t _ a
  lowered_keeps _ _ _ _ _ (release.stopped v w t ts stop few a) = entry_keeps v w t _ a
  lowered_keeps _ _ _ _ _ (release.emptied v w t ts full a) = dead_keeps v w t a

  ran_keeps : {below : Option ℕ} → (v : PortValue) (ts : List TableWork) (w : PortValue) (us : List TableWork) (answers : List Bool) (r : Result (Unit {0}) Stop) → RanDown below v ts w us answers r → Keeps s k four five v w
  ran_keeps v ts _ _ _ _ release.begun = keeps_self s k four five v
  ran_keeps v ts _ _ _ _ (release.unasked u w us xs done answers before step off) = keeps_then s k four five (ran_keeps v ts u us answers (Ok tt) before) (lowered_keeps u us w xs (Ok done) step)
  ran_keeps v ts _ _ _ _ (release.asked u w us xs answers before step on) = keeps_then s k four five (ran_keeps v ts u us answers (Ok tt) before) (lowered_keeps u us w xs (Ok true) step)
  ran_keeps v ts _ _ _ _ (release.due u w us xs answers before step on) = keeps_then s k four five (ran_keeps v ts u us answers (Ok tt) before) (lowered_keeps u us w xs (Ok true) step)
  ran_keeps v ts _ _ _ _ (release.stopped u w us xs answers stop before step) = keeps_then s k four five (ran_keeps v ts u us answers (Ok tt) before) (lowered_keeps u us w xs (Err stop) step)

  -- done
  abbrev DoneKeeps : PortValue → PortValue → Result (Unit {0}) Stop → Type 0
  DoneKeeps v w (Ok done) = Keeps s k four five v w
  DoneKeeps v w (Err e) = Unit {0}

  emptied_done : {below : Option ℕ} → (v : PortValue) (t : TableWork) (w : PortValue) (answers : List Bool) (r : Result (Unit {0}) Stop) → Emptied below v t w answers r → DoneKeeps v w r
  emptied_done v t _ _ _ (release.finished w answers ran) = ran_keeps v (t ∷ []) w [] answers (Ok tt) ran
  emptied_done v t _ _ _ (release.paused u w us answers stop ran left) = tt

  done_by : {below : Option ℕ} → (v : PortValue) (f : ℕ) (t : PageType) (w : PortValue) (answers : List Bool) (r : Result (Unit {0}) Stop) → ReleasedWithin below v f t w answers r → DoneKeeps v w r
  done_by v f t _ _ _ (release.plain w off gave) = gave_type_keeps s k four five v w f t gave
  done_by v f t _ _ _ (release.shared u w on drops gave) = keeps_then s k four five (moves_keeps s k four five v u (Kind f) _ _ _ _ drops.lowers.step (λ e. cc)) (gave_keeps s k four five u w f gave)
  done_by v f t _ _ _ (release.last u x w word level answers (Ok done) on same high drops look empties) =
      keeps_then s k four five (moves_keeps s k four five v u (Kind f) _ _ _ _ drops.lowers.step (λ e. cc)) (keeps_then s k four five (moves_keeps s k four five u x (Refs f) _ _ _ _ look (λ e. cc)) (emptied_done x _ w answers (Ok done) empties))
  done_by v f t _ _ _ (release.last u x w word level answers (Err e) on same high drops look empties) = tt

  pub release_done : {below : Option ℕ} → (v w : PortValue) (f : ℕ) (t : PageType) (answers : List Bool) → ReleasedWithin below v f t w answers (Ok tt) → Keeps s k four five v w
  release_done v w f t answers a = done_by v f t w answers (Ok tt) a

  -- paused, all but the first old word
  module _ (two : k ≢ 2) where
    stored_keeps : (v w : PortValue) (t : TableWork) → StoredPartial v w t → Keeps s k four five v w
    stored_keeps v w t a = moves_keeps s k four five v w (Kind t.frame) _ _ _ _ a.1 (λ e. cc)

    inside_keeps : (v : PortValue) (t : TableWork) (ts : List TableWork) (w : PortValue) (us : List TableWork) → LeftInside v t ts w us → Keeps s k four five v w
    inside_keeps v t [] w us a = absurd a
    inside_keeps v t (outer ∷ ts) w us a = let l = a.1 in keeps_then s k four five (stored_keeps v l.0 t l.1) (moves_keeps s k four five l.0 w Clock _ _ _ _ l.2.1 (λ e. cc))

    unwound_keeps : (v : PortValue) (ts : List TableWork) (w : PortValue) → UnwoundDown v ts w → Keeps s k four five v w
    unwound_keeps v [] w a = subst (Keeps s k four five v) (sym a) (keeps_self s k four five v)
    unwound_keeps v (t ∷ []) w a = keeps_then s k four five (stored_keeps v a.0 t a.1) (named_keeps s k four five two a.0 w t.frame a.2)
    unwound_keeps v (t ∷ outer ∷ ts) w a = keeps_then s k four five (inside_keeps v t (outer ∷ ts) a.0 (one_less outer ∷ ts) a.1) (unwound_keeps a.0 (one_less outer ∷ ts) w a.2)

    emptied_keeps : {below : Option ℕ} → (v : PortValue) (t : TableWork) (w : PortValue) (answers : List Bool) (r : Result (Unit {0}) Stop) → Emptied below v t w answers r → Keeps s k four five v w
    emptied_keeps v t _ _ _ (release.finished w answers ran) = ran_keeps v (t ∷ []) w [] answers (Ok tt) ran
    emptied_keeps v t _ _ _ (release.paused u w us answers stop ran left) = keeps_then s k four five (ran_keeps v (t ∷ []) u us answers (Err stop) ran) (unwound_keeps u us w left)

    pub release_keeps : {below : Option ℕ} → (v : PortValue) (f : ℕ) (t : PageType) (w : PortValue) (answers : List Bool) (r : Result (Unit {0}) Stop) → ReleasedWithin below v f t w answers r → Keeps s k four five v w
    release_keeps v f t _ _ _ (release.plain w off gave) = gave_type_keeps s k four five v w f t gave
    release_keeps v f t _ _ _ (release.shared u w on drops gave) = keeps_then s k four five (moves_keeps s k four five v u (Kind f) _ _ _ _ drops.lowers.step (λ e. cc)) (gave_keeps s k four five u w f gave)
    release_keeps v f t _ _ _ (release.last u x w word level answers answer on same high drops look empties) =
        keeps_then s k four five (moves_keeps s k four five v u (Kind f) _ _ _ _ drops.lowers.step (λ e. cc))
        (keeps_then s k four five (moves_keeps s k four five u x (Refs f) _ _ _ _ look (λ e. cc)) (emptied_keeps x _ w answers answer empties))
