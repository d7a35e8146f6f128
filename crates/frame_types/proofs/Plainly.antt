-- A type that is taken on a board that tells all words.
use Rattle.std.proofs.Common.{◌≡◌, ◌≢◌, ℕ, ◌==◌, if◌then◌else◌, Bool, true, false, Some, None, Ok, Err, refl, sym, ap, ◌∙◌, subst}
use Rattle.xp_words.specs.declared.kind.KindWord.{KindWord}
use Rattle.xp_words.specs.declared.kind.PageType.{PageType}
use Rattle.xp_words.specs.declared.place.Place.{Place}
use Rattle.xp_words.specs.declared.place.Place.TheVariants.{Clock, Pages, Life, Vcpu, Refs, Kind, M2p, Cell, Map, Priv}
use Rattle.xp_words.specs.declared.reply.Pause.TheVariants.{Busy}
use Rattle.xp_words.specs.declared.reply.Refusal.TheVariants.{OtherType}
use Rattle.xp_words.specs.declared.reply.Stop.{Stop}
use Rattle.xp_words.specs.declared.reply.Stop.TheVariants.{Refused, Paused}
use Rattle.xp_words.specs.KindWords.{kind_read, kind_fields, kind_write}
use Rattle.xp_board.specs.declared.step.Act.TheVariants.{Load, Cas}
use Rattle.xp_board.specs.declared.step.StepKind.TheVariants as kinds
use Rattle.xp_board.specs.Acts.{left_by}
use Rattle.xp_board.specs.KindSteps.{begun_kind, is_stale, raised_kind, resumed_kind}
use Rattle.xp_board.specs.Readings.{ref_count, owner_of}
use Rattle.xp_board.specs.RefSteps.{owner_number}
use Rattle.xp_board.specs.Steps.{is_same}
use Rattle.xp_board.specs.Told.{PortValue, is_telling, told_word}
use Rattle.xp_board.proofs.KindForms.{fields_of}
use Rattle.xp_board.proofs.Sums.{when_eq}
use Rattle.step_maker.specs.Moves.{Moves}
use Rattle.step_maker.specs.Plain.{Words, change, Leaves}
use Rattle.step_maker.proofs.Telling.{leaves, load_tells, moves_telling, told_there}
use Rattle.step_maker.specs.Twins.{Alike}
use Rattle.step_maker.proofs.Alikes.{same_alike}
use Rattle.frame_words.specs.Plain.{set_free, lowered, put}
use Rattle.kind_words.specs.Kinds.{live_kind, work_kind}
use Rattle.frame_types.specs.declared.standing.Standing.{Standing}
use Rattle.frame_types.specs.declared.standing.Standing.TheVariants as stands
use Rattle.frame_types.specs.declared.taking.Taken.{Taken}
use Rattle.frame_types.specs.declared.taking.Taken.TheVariants.{Counted, InWork, Waiting}
use Rattle.frame_types.specs.Plain.{GoesPlainly, IsTakenBy, TakesPlainly, TwinOn, is_read_first, less_kept, set_kind, stop_by, taken_by, type_stop, work_unmarked}
use Rattle.frame_types.specs.Standing.{standing_of}
use Rattle.frame_types.specs.Taking.{Looked, progress_of, stamp_by}

-- ---- stores of a kind word
stored_over : (f : ℕ) (l j : KindWord) (m : Words) → set_kind f l (set_kind f j m) ≡ set_kind f l m
unfolding left_by
stored_over f l j m = λ i q. over (is_same q (Kind f)) (kind_write l) (kind_write j) (m q) i
  where
    over : (b : Bool) (x y z : ℕ) → (if b then x else (if b then y else z)) ≡ (if b then x else z)
    over true x y z = refl
    over false x y z = refl

pub stored_there : (f : ℕ) (l : KindWord) (m : Words) → set_kind f l m (Kind f) ≡ kind_write l
unfolding left_by
stored_there f l m = ap (λ b. if b then kind_write l else m (Kind f)) (when_eq f f refl)

-- a reference that is given back does not change it
put_beside : (b : Bool) (f owner : ℕ) (l : KindWord) (m : Words) (q : Place) →
    (if b then set_free f owner (lowered f (set_kind f l m)) else lowered f (set_kind f l m)) q ≡ set_kind f l (if b then set_free f owner (lowered f m) else lowered f m) q
put_beside true f owner l m Clock = refl
put_beside true f owner l m (Pages d) = refl
put_beside true f owner l m (Life d) = refl
put_beside true f owner l m (Vcpu v k) = refl
put_beside true f owner l m (Refs g) = refl
put_beside true f owner l m (Kind g) = refl
put_beside true f owner l m (M2p g) = refl
put_beside true f owner l m (Cell g j) = refl
put_beside true f owner l m (Map k) = refl
put_beside true f owner l m (Priv d) = refl
put_beside false f owner l m Clock = refl
put_beside false f owner l m (Pages d) = refl
put_beside false f owner l m (Life d) = refl
put_beside false f owner l m (Vcpu v k) = refl
put_beside false f owner l m (Refs g) = refl
put_beside false f owner l m (Kind g) = refl
put_beside false f owner l m (M2p g) = refl
put_beside false f owner l m (Cell g j) = refl
put_beside false f owner l m (Map k) = refl
put_beside false f owner l m (Priv d) = refl

pub put_apart : (f : ℕ) (l : KindWord) (m : Words) → put f (set_kind f l m) ≡ set_kind f l (put f m)
put_apart f l m = λ i q. put_beside (ref_count (m (Refs f)) == 1) f (owner_number (owner_of (m (Refs f)))) l m q i

-- ---- the answer, by what the look found
module _ (b w : PortValue) (f : ℕ) (want : PageType) (word : ℕ) (k : KindWord) (s : Standing) (at : told_word b (Kind f) ≡ word) (is : kind_fields word ≡ k) (stands : standing_of k want ≡ s) where
  fields : kind_fields (told_word b (Kind f)) ≡ k
  fields = ap (λ y. kind_fields y) at ∙ is

  standing : standing_of (kind_fields (told_word b (Kind f))) want ≡ s
  standing = ap (λ y. standing_of y want) fields ∙ stands

  stop_is : type_stop f want (told_word b (Kind f)) ≡ stop_by f want word s
  stop_is = ap (λ y. stop_by f want y (standing_of (kind_fields (told_word b (Kind f))) want)) at ∙ ap (stop_by f want word) standing

  pub plain_taken : (t : Taken) → stop_by f want word s ≡ None → IsTakenBy want k s t → Alike (told_word w) (taken_by f want k s t (told_word b)) → TakesPlainly b w f want (Ok t)
  plain_taken t none way words = (
    stop_is ∙ none,
    subst (λ y. IsTakenBy want (kind_fields (told_word b (Kind f))) y t) (sym standing) (subst (λ y. IsTakenBy want y s t) (sym fields) way),
    subst (λ y. Alike (told_word w) (taken_by f want (kind_fields (told_word b (Kind f))) y t (told_word b))) (sym standing)
        (subst (λ y. Alike (told_word w) (taken_by f want y s t (told_word b))) (sym fields) words),
  )

  pub plain_stopped : (e : Stop) → stop_by f want word s ≡ Some e → Leaves w (told_word b) → TakesPlainly b w f want (Err e)
  plain_stopped e stop words = (stop_is ∙ stop, words)

-- ---- the look and the exchange
module _ (b v : PortValue) (f owner : ℕ) (want : PageType) (word : ℕ) (l : Looked b v f owner want word) (telling : is_telling b ≡ true) where
  pub looked_at : told_word b (Kind f) ≡ word
  looked_at = told_there b v (Kind f) Load kinds.Look None word l.look telling

  pub looked_words : told_word v ≡ told_word b
  looked_words = λ i q. load_tells b v (Kind f) kinds.Look None word l.look telling q i

  telling_then : is_telling v ≡ true
  telling_then = moves_telling b v (Kind f) Load kinds.Look None word l.look ∙ telling

  module _ (w : PortValue) (k new : KindWord) (was : word ≡ kind_write k) where
    -- nothing is lost
    pub never_lost : (found : ℕ) → Moves v w (Kind f) (Cas (kind_write k) (kind_write new)) kinds.Kind None found → found ≢ kind_write k → ⊥
    never_lost found change off =
        off (sym (told_there v w (Kind f) (Cas (kind_write k) (kind_write new)) kinds.Kind None found change telling_then) ∙ ap (λ (m : Words). m (Kind f)) looked_words ∙ looked_at ∙ was)

    cas_left : (y : ℕ) → y ≡ kind_write k → left_by (Cas (kind_write k) (kind_write new)) y ≡ kind_write new
    unfolding left_by
    cas_left y at = rw (when_eq y (kind_write k) at) refl

    pub changed_words : Moves v w (Kind f) (Cas (kind_write k) (kind_write new)) kinds.Kind None (kind_write k) → told_word w ≡ set_kind f new (told_word b)
    unfolding left_by
    changed_words change =
        (λ i q. leaves v w (Kind f) (Cas (kind_write k) (kind_write new)) kinds.Kind None (kind_write k) change telling_then q i)
        ∙ ap (λ y. λ q. if is_same q (Kind f) then y else told_word v q) (cas_left (told_word v (Kind f)) (ap (λ (m : Words). m (Kind f)) looked_words ∙ looked_at ∙ was)) ∙ ap (λ (m : Words). set_kind f new m) looked_words

    pub changed_telling : Moves v w (Kind f) (Cas (kind_write k) (kind_write new)) kinds.Kind None (kind_write k) → is_telling w ≡ true
    changed_telling change = moves_telling v w (Kind f) (Cas (kind_write k) (kind_write new)) kinds.Kind None (kind_write k) change ∙ telling_then

-- ---- behind the exchange: from words m with that kind word
abbrev Ends : PortValue → ℕ → PageType → Bool → ℕ → Bool → ℕ → Words → Taken → Type 0
Ends w f want marked stamp own recorded m Counted = (is_read_first want ≡ false) × Alike (told_word w) (set_kind f (live_kind want (if own then 1 else 2)) m)
Ends w f want marked stamp own recorded m (InWork progress mine) = (is_read_first want ≡ true) × (mine ≡ own) × (progress ≡ recorded) × Alike (told_word w) (set_kind f (work_kind want false 0) m)
Ends w f want marked stamp own recorded m (Waiting mine number stop) = (marked ≡ true) × (mine ≡ own) × Alike (told_word w) (set_kind f (work_kind want marked stamp) m)

module _ (x w : PortValue) (f : ℕ) (want : PageType) (marked : Bool) (k : KindWord) (own : Bool) (m : Words) (words : told_word x ≡ set_kind f (work_kind want marked (stamp_by marked k)) m) where
  over : (l : KindWord) → Alike (told_word w) (set_kind f l (told_word x)) → Alike (told_word w) (set_kind f l m)
  over l alike = subst (λ (y : Words). Alike (told_word w) y) (ap (λ (y : Words). set_kind f l y) words ∙ stored_over f l (work_kind want marked (stamp_by marked k)) m) alike

  ends_by : (t : Taken) → GoesPlainly x w f want marked own (progress_of k) t → Ends w f want marked (stamp_by marked k) own (progress_of k) m t
  ends_by Counted goes = (goes.0, over (live_kind want (if own then 1 else 2)) goes.1)
  ends_by (InWork progress mine) goes = (goes.0, goes.1, goes.2, over (work_kind want false 0) goes.3)
  ends_by (Waiting mine stamp stop) goes = (goes.0, goes.1, subst (λ (y : Words). Alike (told_word w) y) words goes.2)

  unmarked : marked ≡ false → told_word x (Kind f) ≡ kind_write (work_kind want false 0)
  unmarked off =
      ap (λ (y : Words). y (Kind f)) words ∙ stored_there f (work_kind want marked (stamp_by marked k)) m ∙ ap (λ y. kind_write (work_kind want y (stamp_by y k))) off

  pub ends : (t : Taken) → is_telling x ≡ true → TwinOn x w f want marked own (progress_of k) t → Ends w f want marked (stamp_by marked k) own (progress_of k) m t
  ends t telling twin = ends_by t (twin telling unmarked)

-- ---- from dead
unmarked_work : (u : Bool) (want : PageType) (n : ℕ) → work_unmarked (work_kind want u (if u then n else 0)) ≡ work_kind want false 0
unmarked_work true want n = refl
unmarked_work false want n = refl

module _ (w : PortValue) (f : ℕ) (want : PageType) (k : KindWord) (m : Words) where
  dead_way : (t : Taken) → Ends w f want (is_stale k want) (stamp_by (is_stale k want) k) true (progress_of k) m t → IsTakenBy want k stands.Dead t × Alike (told_word w) (taken_by f want k stands.Dead t m)
  dead_way Counted e = e
  dead_way (InWork progress mine) e =
      ((e.0, e.1, e.2), subst (λ y. Alike (told_word w) (set_kind f y m)) (sym (unmarked_work (is_stale k want) want k.number)) e.3)
  dead_way (Waiting mine stamp stop) e = ((e.0, e.1), e.2)

  -- ---- from partial
  module _ (own : Bool) (kept : k.kept ≡ own) (again : resumed_kind k ≡ work_kind want k.unflushed (stamp_by k.unflushed k)) (n : Words) (rest : n ≡ less_kept f k stands.Partial m) where
    instead : (l j : KindWord) → l ≡ j → Alike (told_word w) (set_kind f l n) → Alike (told_word w) (set_kind f j (less_kept f k stands.Partial m))
    instead l j is alike = subst (λ y. Alike (told_word w) (set_kind f y (less_kept f k stands.Partial m))) is (subst (λ (y : Words). Alike (told_word w) (set_kind f l y)) rest alike)

    partial_way : (t : Taken) → Ends w f want k.unflushed (stamp_by k.unflushed k) own (progress_of k) n t → IsTakenBy want k stands.Partial t × Alike (told_word w) (taken_by f want k stands.Partial t m)
    partial_way Counted e = (e.0, instead (live_kind want (if own then 1 else 2)) (live_kind want (if k.kept then 1 else 2)) (ap (λ y. live_kind want (if y then 1 else 2)) (sym kept)) e.1)
    partial_way (InWork progress mine) e =
        ((e.0, e.1 ∙ sym kept, e.2), instead (work_kind want false 0) (work_unmarked (resumed_kind k)) (sym (ap (λ y. work_unmarked y) again ∙ unmarked_work k.unflushed want k.number)) e.3)
    partial_way (Waiting mine stamp stop) e = ((e.0, e.1 ∙ sym kept), instead (work_kind want k.unflushed (stamp_by k.unflushed k)) (resumed_kind k) (sym again) e.2)

-- ---- the ways of the call
module _ (b v : PortValue) (f owner : ℕ) (want : PageType) (word : ℕ) (l : Looked b v f owner want word) (k : KindWord) (read : kind_read word ≡ Some k) (was : word ≡ kind_write k) (telling : is_telling b ≡ true) where
  there : told_word b (Kind f) ≡ word
  there = looked_at b v f owner want word l telling

  of : kind_fields word ≡ k
  of = fields_of word k read

  pub plain_busy : standing_of k want ≡ stands.Busy → TakesPlainly b v f want (Err (Paused (Busy f word)))
  plain_busy stand = plain_stopped b v f want word k stands.Busy there of stand (Paused (Busy f word)) refl (λ q. ap (λ (m : Words). m q) (looked_words b v f owner want word l telling))

  pub plain_other : standing_of k want ≡ stands.Other → TakesPlainly b v f want (Err (Refused (OtherType f want word)))
  plain_other stand = plain_stopped b v f want word k stands.Other there of stand (Refused (OtherType f want word)) refl (λ q. ap (λ (m : Words). m q) (looked_words b v f owner want word l telling))

  pub plain_lost : (w : PortValue) (new : KindWord) (found : ℕ) (e : Stop) → Moves v w (Kind f) (Cas (kind_write k) (kind_write new)) kinds.Kind None found → found ≢ kind_write k → TakesPlainly b w f want (Err e)
  plain_lost w new found e step off = absurd (never_lost b v f owner want word l telling w k new was found step off)

  pub plain_counted : (w : PortValue) → standing_of k want ≡ stands.Counted → Moves v w (Kind f) (Cas (kind_write k) (kind_write (raised_kind k))) kinds.Kind None (kind_write k) → TakesPlainly b w f want (Ok Counted)
  plain_counted w stand step =
      plain_taken b w f want word k stands.Counted there of stand Counted refl refl
      (same_alike (told_word w) (set_kind f (raised_kind k) (told_word b)) (λ q. ap (λ (m : Words). m q) (changed_words b v f owner want word l telling w k (raised_kind k) was step)))

  pub plain_dead : (x w : PortValue) (t : Taken) → standing_of k want ≡ stands.Dead → Moves v x (Kind f) (Cas (kind_write k) (kind_write (begun_kind k want))) kinds.Kind None (kind_write k) → TwinOn x w f want (is_stale k want) true (progress_of k) t →
      TakesPlainly b w f want (Ok t)
  plain_dead x w t stand step twin =
      let way = dead_way w f want k (told_word b) t
      (ends x w f want (is_stale k want) k true (told_word b) (changed_words b v f owner want word l telling x k (begun_kind k want) was step) t (changed_telling b v f owner want word l telling x k (begun_kind k want) was step) twin) in
      plain_taken b w f want word k stands.Dead there of stand t refl way.0 way.1

  module _ (x : PortValue) (again : resumed_kind k ≡ work_kind want k.unflushed (stamp_by k.unflushed k)) (stand : standing_of k want ≡ stands.Partial)
      (change : Moves v x (Kind f) (Cas (kind_write k) (kind_write (resumed_kind k))) kinds.Kind None (kind_write k)) where
    words : told_word x ≡ set_kind f (work_kind want k.unflushed (stamp_by k.unflushed k)) (told_word b)
    words = changed_words b v f owner want word l telling x k (resumed_kind k) was change ∙ ap (λ y. set_kind f y (told_word b)) again

    telling_x : is_telling x ≡ true
    telling_x = changed_telling b v f owner want word l telling x k (resumed_kind k) was change

    pub plain_unkept : (w : PortValue) (t : Taken) → k.kept ≡ false → TwinOn x w f want k.unflushed false (progress_of k) t → TakesPlainly b w f want (Ok t)
    plain_unkept w t kept twin =
        let way = partial_way w f want k (told_word b) false kept again (told_word b) (ap (λ y. if y then put f (told_word b) else told_word b) (sym kept)) t
        (ends x w f want k.unflushed k false (told_word b) words t telling_x twin) in
        plain_taken b w f want word k stands.Partial there of stand t refl way.0 way.1

    pub plain_kept : (y w : PortValue) (t : Taken) → k.kept ≡ true → is_telling y ≡ is_telling x → (is_telling x ≡ true → Leaves y (put f (told_word x))) → TwinOn y w f want k.unflushed true (progress_of k) t → TakesPlainly b w f want (Ok t)
    plain_kept y w t kept on puts twin =
        let after : told_word y ≡ put f (told_word x) = (λ i q. puts telling_x q i) in
        let all = after ∙ ap (λ (m : Words). put f m) words ∙ put_apart f (work_kind want k.unflushed (stamp_by k.unflushed k)) (told_word b) in
        let way = partial_way w f want k (told_word b) true kept again (put f (told_word b)) (ap (λ z. if z then put f (told_word b) else told_word b) (sym kept)) t
        (ends y w f want k.unflushed k true (put f (told_word b)) all t (on ∙ telling_x) twin) in
        plain_taken b w f want word k stands.Partial there of stand t refl way.0 way.1
