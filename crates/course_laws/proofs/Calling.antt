-- Whole calls: one that resumes what another has parked.
use Rattle.std.proofs.Common.{◌≡◌, ◌⊎◌, ℕ, ◌+◌, ◌-◌, ◌<◌, ◌==◌, nat_le, if◌then◌else◌, Bool, true, false, List, [], ◌∷◌, Option, Some, None, Result, Ok, Err, IsTrue, refl, sym, ap, ◌∙◌, subst, arith, inl, inr}
use Rattle.std.proofs.Math.Path.{fun_ext}
use Rattle.std.proofs.lemmas.Bool.Decides.{nat_tests}
use Rattle.xp_words.specs.KindWords.{is_kind, kind_fields}
use Rattle.xp_words.specs.Machine.{IsMachine, Machine}
use Rattle.xp_words.specs.declared.place.Place.TheVariants.{Kind, Refs}
use Rattle.xp_words.specs.declared.reply.Pause.TheVariants as pauses
use Rattle.xp_words.specs.declared.reply.Refusal.{Refusal}
use Rattle.xp_words.specs.declared.reply.Stop.{Stop}
use Rattle.xp_words.specs.declared.reply.Stop.TheVariants.{Refused, Paused}
use Rattle.xp_board.specs.KindSteps.{resumed_kind}
use Rattle.xp_board.specs.Readings.{is_dead, kind_at}
use Rattle.xp_board.specs.Told.{Post, PortValue, is_telling, told_word}
use Rattle.step_maker.specs.Moves.{Came}
use Rattle.step_maker.specs.Plain.{Words}
use Rattle.step_maker.proofs.Coming.{came_post, came_trans, met_after}
use Rattle.step_maker.proofs.Telling.{came_telling}
use Rattle.step_maker.specs.Twins.{Alike}
use Rattle.step_maker.proofs.Visiting.{does_came}
use Rattle.frame_words.specs.Plain.{got, put, refer}
use Rattle.frame_types.specs.Plain.{IsTakenBy, set_kind, taken as types_taken, type_stop, work_unmarked}
use Rattle.frame_types.specs.Standing.{standing_of}
use Rattle.frame_types.specs.declared.taking.Taken.TheVariants as types
use Rattle.kind_words.specs.Kinds.{partial_kind, work_kind}
use Rattle.partial_state.specs.Levels.{level_type}
use Rattle.partial_state.specs.declared.stack.TableWork.{TableWork}
use Rattle.table_words.specs.OldWords.{old_place}
use Rattle.table_words.specs.declared.old_words.OldWord.TheVariants.{First}
use Rattle.table_law.specs.Alone.{Cause, PlainOutcome, take_reference}
use Rattle.table_law.specs.Plain.{Describes, Plain, Share, fewer, raised_share, reference_back, with_kind, with_share}
use Rattle.table_law.specs.Stack.{rest}
use Rattle.table_law.proofs.Counting.{at_here, at_there}
use Rattle.table_twins.specs.Answers.{IsCause, IsSameAnswer}
use Rattle.table_twins.proofs.Referring.{same_answer}
use Rattle.table_twins.proofs.Sharing.{same_back}
use Rattle.table_entries.specs.Acquiring.{Acquired, GotRef, MadeLive, keeps_it, TookType, Unwound, Worked, counted, cut_off, due, filled, finished, outermost_table, unfinished, unreferred, untyped, waiting}
use Rattle.course_laws.specs.Courses.{FindsAlive}
use Rattle.course_laws.proofs.Outermost.{IsOutermost, worked_outermost}
use Rattle.course_laws.proofs.Stacking.{Refuses}
use Rattle.course_laws.proofs.Completing.{put_kind}
use Rattle.course_laws.proofs.Halfway.{Half, half_of, of_half, off_below, onto, over, over_off, overlay, tables_onto}
use Rattle.course_laws.proofs.Extras.{Both, IsSame, both_there, described_same, extra, got_both, lent, more_of}
use Rattle.course_laws.proofs.Pacing.{Aim, Carries, IsLastSettled}
use Rattle.course_laws.proofs.Recording.{work_out}
use Rattle.course_laws.proofs.Refusing.{IsForWords, full_by, roomy}
use Rattle.course_laws.proofs.Resuming.{taken_on}
use Rattle.course_laws.proofs.Retaking.{not_counted, not_stopped, own_is, progress_is, retaken, retaken_words}
use Rattle.course_laws.proofs.Travelling.{Ends, EndsAs, Leads, RefusedAt, Steps, all_filled, live_steps, wait_ends}
use Rattle.course_laws.proofs.Under.{Spelled, TableOf, Under, spelled_other}
use Rattle.course_laws.proofs.Unwinding.{part, HalfAt, Parked, ParkedAt, parked_over, unwound}
use Rattle.course_laws.proofs.Walking.{worked_came}

-- ---- the tables
module _ (n : Machine) (owner : ℕ) (a : Aim) (is : IsMachine n) where
  -- all is done; or the gate said yes; or what it stops for
  abbrev pub WorkOutcome : PortValue → List TableWork → Result (Unit {0}) Stop → Type 0
  WorkOutcome w xs (Ok x) = (b : Bool) × Steps n owner w xs a b
  WorkOutcome w xs (Err (Refused y)) = IsForWords a.whole y → RefusedAt n owner w xs y a.outcome
  WorkOutcome w xs (Err (Paused pauses.Due)) = HalfAt n owner w [] xs a
  WorkOutcome w xs (Err (Paused x)) = Unit {0}

  steps_of : (w : PortValue) (xs : List TableWork) → HalfAt n owner w [] xs a → Steps n owner w xs a false
  steps_of w xs g = record { machine = g.machine; telling = g.telling; carries = of_half n owner (told_word w) xs a g.half; settled = λ done. absurd cc }

  half_at : (w : PortValue) (xs : List TableWork) → Steps n owner w xs a true → HalfAt n owner w [] xs a
  half_at w xs g = record { machine = g.machine; telling = g.telling; half = half_of n owner (told_word w) xs a g.carries (g.settled refl) }

  lead_works : (w : PortValue) (xs : List TableWork) (r : Result (Unit {0}) Stop) → Leads n owner a is w xs r → WorkOutcome w xs r
  lead_works w xs (Ok x) l = l
  lead_works w xs (Err (Refused y)) l = l
  lead_works w xs (Err (Paused pauses.Due)) l = half_at w xs l
  lead_works w xs (Err (Paused (pauses.Flush v y x))) l = tt
  lead_works w xs (Err (Paused (pauses.Lost x y z))) l = tt
  lead_works w xs (Err (Paused (pauses.Busy f x))) l = tt
  lead_works w xs (Err (Paused (pauses.Alive v x))) l = tt

  ends_work : (w : PortValue) (xs : List TableWork) (e : Stop) → Ends n owner w xs a e → WorkOutcome w xs (Err e)
  ends_work w xs (Refused y) ends = ends
  ends_work w xs (Paused pauses.Due) ends = absurd ends
  ends_work w xs (Paused (pauses.Flush v y x)) ends = tt
  ends_work w xs (Paused (pauses.Lost x y z)) ends = tt
  ends_work w xs (Paused (pauses.Busy f x)) ends = tt
  ends_work w xs (Paused (pauses.Alive v x)) ends = tt

  pub worked : (rs : List TableWork) (v : PortValue) (t : TableWork) (w : PortValue) (xs : List TableWork) (answers : List Bool) (r : Result (Unit {0}) Stop) → HalfAt n owner v rs (t ∷ []) a → Worked owner v t w xs answers r → WorkOutcome w xs r
  worked rs v t _ _ _ _ g (cut_off w us stop on) = ends_work w us stop (taken_on n owner a is rs v (t ∷ []) w us (Err stop) g on)
  worked rs v t _ _ _ _ g (due w us on asked) = taken_on n owner a is rs v (t ∷ []) w us (Ok true) g on
  worked rs v t _ _ _ _ g (filled u w us xs done answers answer on f) =
      let h = taken_on n owner a is rs v (t ∷ []) u us (Ok done) g on in
      lead_works w xs answer (all_filled n owner a is u us false (steps_of u us h) _ w xs answers answer f)

-- ---- what a whole call comes to
-- the acquisition alone is fine, and the words are those that it leaves
pub record IsDone (n : Machine) (w : PortValue) (a : PlainOutcome) : Type 0 where
  pub none : a.refusal ≡ None
  pub describes : Describes n (told_word w) a.left

-- it is refused for y at once: the words of frames are those that the acquisition alone leaves, and the first old word is as it was
pub record RefusedAtOnce (n : Machine) (v w : PortValue) (y : Refusal) (a : PlainOutcome) : Type 0 where
  pub machine : w.post.machine ≡ n
  pub telling : is_telling w ≡ true
  pub cause : Cause
  pub same : IsCause y cause
  pub is : a.refusal ≡ Some cause
  pub describes : Describes n (told_word w) a.left
  pub old : told_word w (old_place w.post.vcpu First) ≡ told_word v (old_place v.post.vcpu First)

-- At once, which only a call that resumes nothing is; or with tables in work, which are left.
pub data RefusedCall (n : Machine) (owner : ℕ) (v w : PortValue) (f level : ℕ) (y : Refusal) (a : Aim) : Type 0 where
  at_once : a.whole ≡ true → RefusedAtOnce n v w y a.outcome → RefusedCall n owner v w f level y a
  in_work : (u : PortValue) (us : List TableWork) → RefusedAt n owner u us y a.outcome → IsOutermost f level us → Unwound u owner us false w → RefusedCall n owner v w f level y a

pub refuses_of : {n : Machine} {owner : ℕ} {v w : PortValue} {f level : ℕ} {y : Refusal} {a : Aim} → RefusedCall n owner v w f level y a → Refuses y a.outcome
refuses_of (at_once whole r) = record { cause = r.cause; is = r.is; same = r.same }
refuses_of (in_work u us r out left) = record { cause = r.words.cause; is = ap (λ (o : PlainOutcome). o.refusal) r.words.is; same = r.words.same }

abbrev pub CallOutcome : Machine → ℕ → PortValue → PortValue → ℕ → ℕ → Aim → Result ℕ Stop → Type 0
CallOutcome n owner v w f level a (Ok g) = IsDone n w a.outcome
CallOutcome n owner v w f level a (Err (Refused y)) = IsForWords a.whole y → RefusedCall n owner v w f level y a
CallOutcome n owner v w f level a (Err (Paused pauses.Due)) = FindsAlive v w owner → ParkedAt n owner w f level a.outcome
CallOutcome n owner v w f level a (Err (Paused x)) = Unit {0}

abbrev pub CallEnds : Machine → ℕ → PortValue → PortValue → ℕ → ℕ → Aim → Stop → Type 0
CallEnds n owner v w f level a e = EndsAs a.whole (λ y. RefusedCall n owner v w f level y a) e

pub ends_call : (n : Machine) (owner : ℕ) (v w : PortValue) (f level : ℕ) (a : Aim) (e : Stop) → CallEnds n owner v w f level a e → CallOutcome n owner v w f level a (Err e)
ends_call n owner v w f level a (Refused y) ends = ends
ends_call n owner v w f level a (Paused pauses.Due) ends = absurd ends
ends_call n owner v w f level a (Paused (pauses.Flush u y x)) ends = tt
ends_call n owner v w f level a (Paused (pauses.Lost x y z)) ends = tt
ends_call n owner v w f level a (Paused (pauses.Busy g x)) ends = tt
ends_call n owner v w f level a (Paused (pauses.Alive u x)) ends = tt

pub lent_none : (p : Plain) → IsSame (lent (extra []) p) p
lent_none p = record { shares = λ g. by (p.shares g); kinds = λ g. refl; cells = λ g i. refl }
  where
    by : (o : Option Share) → o ≡ more_of 0 o
    by None = refl
    by (Some s) = let e : s.count ≡ s.count + 0 = omega arith in ap (λ c. Some (record { owner = s.owner; allocated = s.allocated; count = c })) e

-- nothing is left to do
all_done : (n : Machine) (owner : ℕ) (w : PortValue) (a : Aim) → Carries n owner (told_word w) [] a → IsDone n w a.outcome
unfolding rest
all_done n owner w a c =
    record {
      none = sym (ap (λ (o : PlainOutcome). o.refusal) c.under.ahead);
      describes = subst (λ q. Describes n (told_word w) q) (ap (λ (o : PlainOutcome). o.left) c.under.ahead) (described_same n (told_word w) (lent (extra []) c.plain) c.plain (lent_none c.plain) c.describes);
    }

-- from the outermost table in work on
module _ (n : Machine) (owner f level : ℕ) (a : Aim) (is : IsMachine n) (x : PortValue) (rs : List TableWork) (t : TableWork) (g : HalfAt n owner x rs (t ∷ []) a) (outer : IsOutermost f level (t ∷ [])) where
  as_part : (y : PortValue) (us : List TableWork) → HalfAt n owner y [] us a → HalfAt n owner y [] us (part a.outcome)
  as_part y us h =
      let k = h.half in
      record { machine = h.machine; telling = h.telling; half = record { plain = k.plain; under = k.under; describes = k.describes; spelled = k.spelled; flags = k.flags; settled = k.settled; mine = λ whole. absurd cc } }

  pauses_by : (y w : PortValue) (us : List TableWork) → HalfAt n owner y [] us a → IsOutermost f level us → Unwound y owner us true w → FindsAlive y w owner → ParkedAt n owner w f level a.outcome
  pauses_by y w [] h out left finds = absurd out
  pauses_by y w (o ∷ us) h out left finds = unwound n owner f level a.outcome us [] o y w (as_part y (o ∷ us) h) out left finds

  pub left_call : (v : PortValue) → Came v x → (y w : PortValue) (us : List TableWork) (answers : List Bool) (stop : Stop) → Worked owner x t y us answers (Err stop) → Unwound y owner us (keeps_it stop) w → CallOutcome n owner v w f level a (Err stop)
  left_call v came y w us answers (Refused z) work left = λ known.
      in_work y us (worked n owner a is rs x t y us answers (Err (Refused z)) g work known) (worked_outermost owner f level x t y us answers (Err (Refused z)) work outer) left
  left_call v came y w us answers (Paused pauses.Due) work left = λ finds.
      pauses_by y w us (worked n owner a is rs x t y us answers (Err (Paused pauses.Due)) g work) (worked_outermost owner f level x t y us answers (Err (Paused pauses.Due)) work outer) left
      (λ m met. finds m (met_after v y w m (came_trans v x y came (worked_came owner x t y us answers (Err (Paused pauses.Due)) work)) met))
  left_call v came y w us answers (Paused (pauses.Flush u z k)) work left = tt
  left_call v came y w us answers (Paused (pauses.Lost k z l)) work left = tt
  left_call v came y w us answers (Paused (pauses.Busy h k)) work left = tt
  left_call v came y w us answers (Paused (pauses.Alive u k)) work left = tt

  pub done_call : (y w : PortValue) (u : TableWork) (answers : List Bool) → Worked owner x t y (u ∷ []) answers (Ok tt) → u.done ≡ 512 → MadeLive y w u → IsDone n w a.outcome
  done_call y w u answers work full made =
      let s = worked n owner a is rs x t y (u ∷ []) answers (Ok tt) g work in
      all_done n owner w a (live_steps n owner y w u [] a s.0 s.1 full made s.1.carries.flags.0).carries

-- ---- the outermost table is resumed
module _ (n : Machine) (owner : ℕ) (m : Words) (t : TableWork) (rs : List TableWork) (a : PlainOutcome) (is : IsMachine n) (h : Parked n owner m t.frame t.level a) (table : h.table ≡ t) (inner : h.inner ≡ rs) where
  under : Under n owner h.plain (onto rs (t ∷ [])) a
  under = subst (λ k. Under n owner h.plain (onto rs (k ∷ [])) a) table (subst (λ ks. Under n owner h.plain (onto ks (h.table ∷ [])) a) inner h.under)

  abbrev q : Plain
  q = parked_over true t rs h.plain

  abbrev x : ℕ → ℕ
  x = extra (t ∷ [])

  describes : Describes n m (lent x q)
  describes = subst (λ k. Describes n m (lent (extra (k ∷ [])) (parked_over true k rs h.plain))) table (subst (λ ks. Describes n m (lent (extra (h.table ∷ [])) (parked_over true h.table ks h.plain))) inner h.describes)

  spells : Spelled n m q
  spells = subst (λ k. Spelled n m (parked_over true k rs h.plain)) table (subst (λ ks. Spelled n m (parked_over true h.table ks h.plain)) inner h.spelled)

  of_t : TableOf n owner h.plain t
  of_t = (tables_onto n owner h.plain rs (t ∷ []) under.tables).0

  partial : q.kinds t.frame ≡ partial_kind (level_type t.level) true false t.done 0
  partial = at_here t.frame (partial_kind (level_type t.level) true false t.done 0) (over rs h.plain.kinds)

  pub outer_refused : (y : Refusal) → refer n owner t.frame (m (Refs t.frame)) ≡ Some y → IsForWords false y → ⊥
  outer_refused y refuses known =
      let s : Share = record { owner = of_t.share.owner; allocated = of_t.share.allocated; count = of_t.share.count + x t.frame } in
      elim (roomy false y known) [
        | inl room ↦
            full_by n owner t.frame x q y room (subst (λ o. IsSameAnswer o (take_reference n owner t.frame (lent x q)).refusal) refuses (same_answer n m (lent x q) owner t.frame describes))
            (nat_le n.limit s.count) s (ap (more_of (x t.frame)) of_t.was) of_t.owns of_t.inside refl
        | inr whole ↦ absurd cc
      ]

  module _ (none : refer n owner t.frame (m (Refs t.frame)) ≡ None) where
    lends : Both n owner t.frame x q
    lends = both_there n m owner t.frame x q is describes none

    unfoldable one : Plain
    one = lent x (with_share t.frame (raised_share lends.share) q)

    got_it : Describes n (got t.frame m) one
    unfolding one lends
    got_it = got_both n m owner t.frame x q is describes none

    partial_one : one.kinds t.frame ≡ partial_kind (level_type t.level) true false t.done 0
    unfolding one
    partial_one = partial

    some_share : 0 < lends.share.count
    some_share =
        let same : Some lends.share ≡ Some of_t.share = sym lends.was ∙ of_t.was in
        let count : lends.share.count ≡ of_t.share.count = cc in
        let some = of_t.some in
        omega arith

    one_here : one.shares t.frame ≡ Some (record { owner = lends.share.owner; allocated = lends.share.allocated; count = lends.share.count + 1 + x t.frame })
    unfolding one
    one_here = ap (more_of (x t.frame)) (at_here t.frame (Some (raised_share lends.share)) q.shares)

    back_here : fewer (one.shares t.frame) ≡ more_of (x t.frame) (q.shares t.frame)
    back_here =
        let some = some_share in
        let many : ℕ = lends.share.count + 1 + x t.frame in
        let off : (many == 1) ≡ false = grind (arith, nat_tests) in
        let less : many - 1 ≡ lends.share.count + x t.frame = omega arith in
        let with : (ℕ → Share) = λ c. record { owner = lends.share.owner; allocated = lends.share.allocated; count = c } in
        let fewer_by : (if many == 1 then None else Some (with (many - 1))) ≡ Some (with (many - 1)) = ap (λ b. if b then None else Some (with (many - 1))) off in
        ap fewer one_here ∙ (fewer_by ∙ (ap (λ c. Some (with c)) less ∙ sym (ap (more_of (x t.frame)) lends.was)))

    back_by : (b : Bool) (g : ℕ) → (g == t.frame) ≡ b → more_of (x g) (q.shares g) ≡ (if b then fewer (one.shares t.frame) else one.shares g)
    unfolding one
    back_by true g same = let e : g ≡ t.frame = grind (arith, nat_tests) in ap (λ i. more_of (x i) (q.shares i)) e ∙ sym back_here
    back_by false g same = ap (λ b. more_of (x g) (if b then Some (raised_share lends.share) else q.shares g)) (sym same)

    pub put_again : Describes n (put t.frame (got t.frame m)) (lent x q)
    unfolding one
    put_again =
        described_same n (put t.frame (got t.frame m)) (reference_back t.frame one) (lent x q) (record { shares = λ g. back_by (g == t.frame) g refl; kinds = λ g. refl; cells = λ g i. refl })
        (same_back n (got t.frame m) one t.frame (record { owner = lends.share.owner; allocated = lends.share.allocated; count = lends.share.count + 1 + x t.frame }) got_it of_t.inside one_here)

    pub outer_stopped : (e : Stop) → type_stop t.frame (level_type t.level) (got t.frame m (Kind t.frame)) ≡ Some e → ⊥
    outer_stopped e stop = not_stopped n (got t.frame m) m one t.frame t.level true t.done got_it of_t.inside of_t.low partial_one e stop

    pub outer_counted : IsTakenBy (level_type t.level) (kind_at (got t.frame m) t.frame) (standing_of (kind_at (got t.frame m) t.frame) (level_type t.level)) types.Counted → ⊥
    outer_counted way = not_counted n (got t.frame m) m one t.frame t.level true t.done got_it of_t.inside of_t.low partial_one way

    module _ (w : PortValue) (progress : ℕ) (own : Bool) (way : IsTakenBy (level_type t.level) (kind_at (got t.frame m) t.frame) (standing_of (kind_at (got t.frame m) t.frame) (level_type t.level)) (types.InWork progress own)) (alike : Alike (told_word w) (types_taken t.frame (level_type t.level) (types.InWork progress own) (got t.frame m))) where
      own_on : own ≡ true
      own_on = own_is n (got t.frame m) (told_word w) one t.frame t.level true t.done got_it of_t.inside of_t.low partial_one progress own way

      done_is : progress ≡ t.done
      done_is = progress_is n (got t.frame m) (told_word w) one t.frame t.level true t.done got_it of_t.inside of_t.low partial_one progress own way

      words : Alike (told_word w) (set_kind t.frame (work_unmarked (resumed_kind (kind_at (got t.frame m) t.frame))) (put t.frame (got t.frame m)))
      words = retaken_words n (got t.frame m) (told_word w) one t.frame t.level true t.done got_it of_t.inside of_t.low partial_one progress own way alike

      work_here : (over rs h.plain.kinds) t.frame ≡ work_kind (level_type t.level) false 0
      work_here = over_off rs h.plain.kinds t.frame (off_below n owner h.plain t.frame t.level rs t [] of_t.high (omega arith) of_t.work under.tables) ∙ of_t.work

      kinds_by : (b : Bool) (g : ℕ) → (g == t.frame) ≡ b → over rs h.plain.kinds g ≡ (if b then work_kind (level_type t.level) false 0 else (if b then partial_kind (level_type t.level) true false t.done 0 else over rs h.plain.kinds g))
      kinds_by true g same = let e : g ≡ t.frame = grind (arith, nat_tests) in ap (over rs h.plain.kinds) e ∙ work_here
      kinds_by false g same = refl

      pub outer_half : Half n owner (told_word w) rs (t ∷ []) (part a)
      outer_half =
          record {
            plain = h.plain;
            under = under;
            describes = described_same n (told_word w) (with_kind t.frame (work_kind (level_type t.level) false 0) (lent x q)) (lent x (overlay rs h.plain)) (record { shares = λ g. refl; kinds = λ g. kinds_by (g == t.frame) g refl; cells = λ g i. refl })
                (retaken n (got t.frame m) (told_word w) one t.frame t.level true t.done got_it of_t.inside of_t.low partial_one (put t.frame (got t.frame m)) (lent x q) put_again words);
            spelled = spelled_other n (put t.frame (got t.frame m)) (told_word w) q (overlay rs h.plain) (λ g inside. put_again.kinds g inside)
                (λ g inside out. subst (λ y. IsTrue (is_kind (kind_fields y))) (sym (put_kind t.frame g (got t.frame m))) (spells g inside out)) t.frame _ words
                (λ out. work_out (level_type t.level) (subst (λ j. (is_dead j ≡ true) ⊎ (j.validated ≡ true)) work_here out)) (λ g off. sym (at_there t.frame g (partial_kind (level_type t.level) true false t.done 0) (over rs h.plain.kinds) off));
            flags = (ap (λ (k : TableWork). k.own) (sym table) ∙ h.own, ap (λ (k : TableWork). k.recorded) (sym table) ∙ h.under_way);
            mine = λ whole. absurd cc;
            settled = subst (λ k. IsLastSettled n h.plain (onto rs (k ∷ []))) table (subst (λ ks. IsLastSettled n h.plain (onto ks (h.table ∷ []))) inner h.settled);
          }

      pub outermost_is : t ≡ outermost_table t.frame t.level progress own
      outermost_is =
          let mine : t.own ≡ own = ap (λ (k : TableWork). k.own) (sym table) ∙ h.own ∙ sym own_on in
          let under_way : t.recorded ≡ false = ap (λ (k : TableWork). k.recorded) (sym table) ∙ h.under_way in
          ap (λ k. record { frame = t.frame; level = t.level; done = k; own = t.own; recorded = t.recorded }) (sym done_is)
          ∙ ap (λ b. record { frame = t.frame; level = t.level; done = progress; own = b; recorded = t.recorded }) mine ∙ ap (λ b. record { frame = t.frame; level = t.level; done = progress; own = own; recorded = b }) under_way

-- ---- a whole call, from parked words
module _ (n : Machine) (owner : ℕ) (a : PlainOutcome) (is : IsMachine n) (v : PortValue) (t : TableWork) (g : ParkedAt n owner v t.frame t.level a) (table : g.parked.table ≡ t) where
  none_by : (u : PortValue) → GotRef v u t.frame owner (Ok t.frame) → refer n owner t.frame (told_word v (Refs t.frame)) ≡ None
  none_by u ref = subst (λ k. refer k owner t.frame (told_word v (Refs t.frame)) ≡ None) g.machine (ref.plain g.telling).0

  words_by : (u : PortValue) → GotRef v u t.frame owner (Ok t.frame) → told_word u ≡ got t.frame (told_word v)
  words_by u ref = fun_ext (ref.plain g.telling).1

  telling_by : (u : PortValue) → GotRef v u t.frame owner (Ok t.frame) → is_telling u ≡ true
  telling_by u ref = came_telling v u (does_came v u _ ref.found) ∙ g.telling

  unreferred_ends : (w : PortValue) (e : Stop) → GotRef v w t.frame owner (Err e) → CallEnds n owner v w t.frame t.level (part a) e
  unreferred_ends w (Refused y) ref =
      let refuses = subst (λ k. refer k owner t.frame (told_word v (Refs t.frame)) ≡ Some y) g.machine (ref.plain g.telling).0 in
      λ known. absurd (outer_refused n owner (told_word v) t g.parked.inner a is g.parked table refl y refuses known)
  unreferred_ends w (Paused z) ref = absurd (ref.plain g.telling)

  untyped_never : (u x : PortValue) (e : Stop) → GotRef v u t.frame owner (Ok t.frame) → TookType u x t.frame owner t.level (Err e) → ⊥
  untyped_never u x e ref type =
      outer_stopped n owner (told_word v) t g.parked.inner a is g.parked table refl (none_by u ref) e (subst (λ (m : Words). type_stop t.frame (level_type t.level) (m (Kind t.frame)) ≡ Some e) (words_by u ref) (type.plain (telling_by u ref)).0)

  counted_never : (u x : PortValue) → GotRef v u t.frame owner (Ok t.frame) → TookType u x t.frame owner t.level (Ok types.Counted) → ⊥
  counted_never u x ref type =
      outer_counted n owner (told_word v) t g.parked.inner a is g.parked table refl (none_by u ref)
      (subst (λ (m : Words). IsTakenBy (level_type t.level) (kind_at m t.frame) (standing_of (kind_at m t.frame) (level_type t.level)) types.Counted) (words_by u ref) (type.plain (telling_by u ref)).1)

  module _ (u x : PortValue) (progress : ℕ) (own : Bool) (ref : GotRef v u t.frame owner (Ok t.frame)) (type : TookType u x t.frame owner t.level (Ok (types.InWork progress own))) where
    way : IsTakenBy (level_type t.level) (kind_at (got t.frame (told_word v)) t.frame) (standing_of (kind_at (got t.frame (told_word v)) t.frame) (level_type t.level)) (types.InWork progress own)
    way = subst (λ (m : Words). IsTakenBy (level_type t.level) (kind_at m t.frame) (standing_of (kind_at m t.frame) (level_type t.level)) (types.InWork progress own)) (words_by u ref) (type.plain (telling_by u ref)).1

    leaves_words : Alike (told_word x) (types_taken t.frame (level_type t.level) (types.InWork progress own) (got t.frame (told_word v)))
    leaves_words = subst (λ (m : Words). Alike (told_word x) (types_taken t.frame (level_type t.level) (types.InWork progress own) m)) (words_by u ref) (type.plain (telling_by u ref)).2

    came : Came v x
    came = came_trans v u x (does_came v u _ ref.found) (does_came u x _ type.found)

    pub begins : HalfAt n owner x g.parked.inner (outermost_table t.frame t.level progress own ∷ []) (part a)
    begins =
        let half = outer_half n owner (told_word v) t g.parked.inner a is g.parked table refl (none_by u ref) x progress own way leaves_words in
        let same = outermost_is n owner (told_word v) t g.parked.inner a is g.parked table refl (none_by u ref) x progress own way leaves_words in
        record {
          machine = ap (λ (q : Post). q.machine) (came_post v x came) ∙ g.machine;
          telling = came_telling v x came ∙ g.telling;
          half = subst (λ k. Half n owner (told_word x) g.parked.inner (k ∷ []) (part a)) same half;
        }

  pub resumed_call : (w : PortValue) (answers : List Bool) (answer : Result ℕ Stop) → Acquired v t.frame owner t.level w answers answer → CallOutcome n owner v w t.frame t.level (part a) answer
  resumed_call _ _ _ (unreferred w stop ref) = ends_call n owner v w t.frame t.level (part a) stop (unreferred_ends w stop ref)
  resumed_call _ _ _ (untyped u x w stop ref type back) = absurd (untyped_never u x stop ref type)
  resumed_call _ _ _ (counted u w ref type) = absurd (counted_never u w ref type)
  resumed_call _ _ _ (waiting u x w own stamp stop ref type left) = ends_call n owner v w t.frame t.level (part a) stop (wait_ends false _ stop type.waits.0)
  resumed_call _ _ _ (unfinished u x y w progress own us answers stop ref type work left) =
      left_call n owner t.frame t.level (part a) is x g.parked.inner (outermost_table t.frame t.level progress own) (begins u x progress own ref type) (refl, refl) v (came u x progress own ref type) y w us answers stop work left
  resumed_call _ _ _ (finished u x y w progress own k answers ref type work full made) =
      done_call n owner t.frame t.level (part a) is x g.parked.inner (outermost_table t.frame t.level progress own) (begins u x progress own ref type) (refl, refl) y w k answers work full made
