-- The outermost table stays the same while the tables in it are validated: what that says when it is full, and when all are left.
use Rattle.std.proofs.Common.{◌≡◌, ℕ, Bool, true, false, List, [], ◌∷◌, Option, Some, None, refl, sym, ap, ◌∙◌, subst, inl, inr, ◌≢◌, ◌+◌, ◌-◌, ◌<◌}
use Rattle.xp_board.specs.declared.holdings.Holdings.{Holdings}
use Rattle.xp_board.specs.Told.{PortValue, Post}
use Rattle.step_maker.specs.Holds.{FlushedHolds, Holds, quiet}
use Rattle.table_words.specs.OldWords.{known_old, kept_in_old}
use Rattle.table_words.specs.declared.old_words.OldWord.TheVariants.{First}
use Rattle.partial_state.specs.declared.stack.TableWork.{TableWork}
use Rattle.level_validate.specs.Acquiring.{is_filled, outermost_work}
use Rattle.level_validate.specs.Tables.{Carries, IsStanding, StandsOn}
use Rattle.level_validate.specs.Unwinding.{Unwinds, UnwoundHand, named_unless, outermost_frame, outermost_named, UnwindsTo, UnwoundTo, around_lent, left_so}
use Rattle.level_validate.proofs.Standing.{top, top_gone, top_kept, top_typed, refs_own, stands_none, stands_post, tables_none}
use Rattle.xp_words.specs.Places.{sizes_of}
use Rattle.xp_board.specs.Hands.{typed_to, without_typed, without_work}
use Rattle.xp_board.specs.Readings.{domain_of}
use Rattle.step_maker.specs.Moves.{Came}
use Rattle.step_maker.proofs.Coming.{came_self, came_trans}
use Rattle.kept_marks.specs.Marks.{LeavesKept}
use Rattle.kind_words.specs.Kinds.{partial_kind}
use Rattle.partial_state.specs.Levels.{level_type}
use Rattle.level_validate.specs.Courses.{LeavesAll, UnwindsOn}
use Rattle.level_validate.specs.Serving.{CarriesOn, ServesLeft, ServesTo}
use Rattle.level_validate.proofs.Leaving.{typed_gone, unwinds_then}
use Rattle.level_validate.proofs.Serving.{goes_nothing, goes_then, left_behind, left_on}
use Rattle.xp_board.proofs.PlaceTests.{equal_by as is_at}

-- ---- full

pub filled_is : (t : TableWork) (us : List TableWork) → is_filled us ≡ true → outermost_work us ≡ outermost_work (t ∷ []) → us ≡ record t { done = 512 } ∷ []
filled_is t [] full same = absurd cc
filled_is t (u ∷ []) full same =
    let is : record u { done = 0 } ≡ record t { done = 0 } = cc in
    let all : record u { done = u.done } ≡ record t { done = u.done } = ap (λ (y : TableWork). record y { done = u.done }) is in
    ap (λ (y : TableWork). y ∷ []) (all ∙ ap (λ n. record t { done = n }) (is_at u.done 512 full))
filled_is t (u ∷ x ∷ xs) full same = absurd cc

-- ---- named
abbrev named_by : Bool → Option TableWork → Holdings → Holdings
named_by kept None h = h
named_by kept (Some t) h = named_unless kept t h

named_is : (kept : Bool) (ts : List TableWork) (h : Holdings) → outermost_named kept ts h ≡ named_by kept (outermost_work ts) h
named_is kept [] h = refl
named_is kept (t ∷ []) h = refl
named_is kept (t ∷ u ∷ us) h = named_is kept (u ∷ us) h

pub named_alike : (kept : Bool) (ts us : List TableWork) (h : Holdings) → outermost_work ts ≡ outermost_work us → outermost_named kept ts h ≡ outermost_named kept us h
named_alike kept ts us h same = named_is kept ts h ∙ ap (λ o. named_by kept o h) same ∙ sym (named_is kept us h)

pub hand_alike : (v w : PortValue) (owner : ℕ) (kept : Bool) (ts us : List TableWork) → outermost_work ts ≡ outermost_work us → UnwoundHand v w owner kept ts → UnwoundHand v w owner kept us
hand_alike v w owner kept ts us same (inl hand) = inl (subst (λ h. FlushedHolds v w h) (named_alike kept ts us v.holdings same) hand)
hand_alike v w owner kept ts us same (inr hand) = inr (hand.0, hand.1, subst (λ h. FlushedHolds v w h) (named_alike false ts us v.holdings same) hand.2)

-- its frame
abbrev frame_by : Option TableWork → ℕ
frame_by None = 0
frame_by (Some t) = t.frame

frame_is : (ts : List TableWork) → outermost_frame ts ≡ frame_by (outermost_work ts)
frame_is [] = refl
frame_is (t ∷ []) = refl
frame_is (t ∷ u ∷ us) = frame_is (u ∷ us)

pub frame_alike : (ts us : List TableWork) → outermost_work ts ≡ outermost_work us → outermost_frame ts ≡ outermost_frame us
frame_alike ts us same = frame_is ts ∙ ap frame_by same ∙ sym (frame_is us)

-- ---- behind steps on which the tables stand, the first old word stays as it was
pub on_room : (u x : PortValue) (owner : ℕ) (ts us : List TableWork) → IsStanding u owner ts → StandsOn u x owner ts us → known_old First u.holdings ≡ Some 0 → known_old First x.holdings ≡ Some 0
on_room u x owner ts us a stands room = ap (λ (q : PortValue). q.holdings.old0) (stands a.0 a.1).hand ∙ sym (ap (λ (q : PortValue). q.holdings.old0) a.1.hand) ∙ room

-- The tables in work are left, one after the other.
-- ---- the outermost table
named_lent : (kept : Bool) (t : TableWork) (h : Holdings) → t.own ≡ false → named_unless kept t h ≡ h
named_lent true t h lent = refl
named_lent false t h lent = rw lent refl

named_own : (t : TableWork) (h : Holdings) → t.own ≡ true → named_unless false t h ≡ record h { old0 = Some (t.frame + 1) }
named_own t h own = rw own refl

-- another holder has it
pub around_none : (b : Bool) → around_lent b [] ≡ []
around_none true = refl
around_none false = refl

pub outer_lent : (v x : PortValue) (owner : ℕ) (t : TableWork) (kept : Bool) → t.own ≡ false → Carries v x owner (around_lent t.recorded []) → UnwoundHand v x owner kept (t ∷ [])
outer_lent v x owner t kept lent s =
    inl (stands_none v x owner (subst (λ us. Carries v x owner us) (around_none t.recorded) s) ∙ ap (λ h. quiet (record v { holdings = h })) (sym (named_lent kept t v.holdings lent)))

-- its type count went out of the hand
module _ {v w : PortValue} {owner : ℕ} {t : TableWork} (s : Carries v w owner (t ∷ [])) (own : t.own ≡ true) where
  outer_gone : (o : Option ℕ) (x : PortValue) → FlushedHolds w x (record w.holdings { typed = without_typed t.frame w.holdings.typed; works = without_work t.frame w.holdings.works; old0 = o }) → FlushedHolds v x (record v.holdings { old0 = o })
  outer_gone o x gone =
      let y = top_typed s own in
      let e = top s in
      gone
      ∙ ap (λ ys. quiet (record w { holdings = record w.holdings { typed = ys; works = without_work t.frame w.holdings.works; old0 = o } })) (typed_gone s own ∙ y.around ∙ sym s.idle.typed)
      ∙ ap (λ ws. quiet (record w { holdings = record w.holdings { typed = v.holdings.typed; works = ws; old0 = o } }))
      (top_gone s ∙ tables_none (sizes_of v.post.machine) w.holdings.steps (Some t) e.others e.around ∙ sym s.idle.works)
      ∙ ap (λ (q : PortValue). quiet (record q { holdings = record q.holdings { typed = v.holdings.typed; works = v.holdings.works; old0 = o } })) s.hand
      ∙ ap (λ rs. quiet (record v { holdings = record v.holdings { refs = rs; old0 = o } })) (s.refs ∙ (let r = refs_own owner t [] v.holdings.refs own in r))

  -- the first old word has it
  module _ (d : PortValue) (hand : Holds w d (left_so t.frame w.holdings)) where
    pub outer_held : 0 < typed_to t.frame w.holdings.typed → 0 < typed_to t.frame d.holdings.typed
    outer_held held = subst (λ xs. 0 < typed_to t.frame xs) (sym (ap (λ (q : PortValue). q.holdings.typed) hand)) held

    pub outer_named : (kept : Bool) → kept ≡ false → (x : PortValue) → Holds d x (kept_in_old First t.frame d.holdings) → UnwoundHand v x owner kept (t ∷ [])
    outer_named kept off x put =
        inl (outer_gone (Some (t.frame + 1)) x (ap quiet put ∙ ap (λ (q : PortValue). quiet (record q { holdings = kept_in_old First t.frame q.holdings })) hand)
        ∙ ap (λ h. quiet (record v { holdings = h })) (sym (named_own t v.holdings own)) ∙ ap (λ b. quiet (record v { holdings = named_unless b t v.holdings })) (sym off))

  -- its `kept` mark has it; or that was taken back, and the first old word has it
  pub outer_kept : (kept : Bool) → kept ≡ true → (d : PortValue) → LeavesKept w d t.frame (partial_kind (level_type t.level) true false t.done 0) owner → UnwoundHand v d owner kept (t ∷ [])
  outer_kept kept on d (inl hand) =
      let so = top_kept s own in
      inl (outer_gone w.holdings.old0 d (ap quiet hand ∙ ap (λ h. quiet (record w { holdings = h })) so) ∙ ap (λ o. quiet (record v { holdings = record v.holdings { old0 = o } })) (ap (λ (q : PortValue). q.holdings.old0) s.hand)
      ∙ ap (λ b. quiet (record v { holdings = named_unless b t v.holdings })) (sym on))
  outer_kept kept on d (inr back) =
      let so = top_kept s own in
      inr (
        subst (λ (p : Post). owner ≢ domain_of p.machine p.vcpu) (stands_post v w owner (t ∷ []) s) back.0,
        on,
        outer_gone (Some (t.frame + 1)) d (ap quiet back.1 ∙ ap (λ (h : Holdings). quiet (record w { holdings = record h { old0 = Some (t.frame + 1) } })) so) ∙ ap (λ h. quiet (record v { holdings = h })) (sym (named_own t v.holdings own)),
      )

-- ---- a table inside another one
-- ---- one table
module _ (u w : PortValue) (owner : ℕ) (kept : Bool) (t : TableWork) where
  -- it was the only one
  pub none_hand : (us : List TableWork) → us ≡ [] → Unwinds u w owner kept (t ∷ []) → UnwindsTo u w owner kept (t ∷ us) us
  none_hand us none left = subst (λ (rs : List TableWork). UnwindsTo u w owner kept (t ∷ rs) rs) (sym none) left

  pub none_serves : (us : List TableWork) → us ≡ [] → ServesLeft u w owner kept t.frame (t ∷ []) [] → ServesTo u w owner kept (t ∷ us) us
  none_serves us none left = subst (λ (rs : List TableWork). ServesTo u w owner kept (t ∷ rs) rs) (sym none) left

-- it stays the outermost one
outermost_within : (t : TableWork) (ts : List TableWork) → ts ≢ [] → outermost_work ts ≡ outermost_work (t ∷ ts)
outermost_within t [] some = absurd (some refl)
outermost_within t (u ∷ us) some = refl

pub outermost_done : (u : TableWork) (n : ℕ) (us : List TableWork) → outermost_work (record u { done = n } ∷ us) ≡ outermost_work (u ∷ us)
outermost_done u n [] = refl
outermost_done u n (r ∷ rs) = refl

outermost_stays : (b : Bool) (ts : List TableWork) → outermost_work (around_lent b ts) ≡ outermost_work ts
outermost_stays true ts = refl
outermost_stays false [] = refl
outermost_stays false (u ∷ us) = outermost_done u (u.done - 1) us

outermost_left : (b : Bool) (t : TableWork) (us rs : List TableWork) → rs ≡ around_lent b us → rs ≢ [] → outermost_work rs ≡ outermost_work (t ∷ us)
outermost_left b t us rs is some =
    ap (λ ts. outermost_work ts) is ∙ outermost_stays b us ∙ outermost_within t us (λ none. some (is ∙ ap (λ ts. around_lent b ts) none ∙ around_none b))

-- ---- the loop: from u on so many of the tables ts were left, and us stand
pub record Unwinding (u w : PortValue) (owner : ℕ) (kept : Bool) (ts us : List TableWork) : Type 0 where
  pub came : Came u w
  pub outermost : us ≢ [] → outermost_work us ≡ outermost_work ts
  pub hand : UnwindsTo u w owner kept ts us
  pub serves : ServesTo u w owner kept ts us
  pub course : UnwindsOn u w owner kept ts us

begins : (u v : PortValue) (owner : ℕ) (kept : Bool) (ts : List TableWork) → Carries v u owner ts → UnwoundTo v u owner kept ts ts
begins u v owner kept [] s = inl (stands_none v u owner s)
begins u v owner kept (t ∷ ts) s = s

serves_begin : (u : PortValue) (owner : ℕ) (kept : Bool) (ts : List TableWork) → ServesTo u u owner kept ts ts
serves_begin u owner kept [] = left_on u u owner kept 0 [] [] [] (goes_nothing u owner [])
serves_begin u owner kept (t ∷ ts) = goes_nothing u owner (t ∷ ts)

pub unwinding_begins : (u : PortValue) (owner : ℕ) (kept : Bool) (ts : List TableWork) → Unwinding u u owner kept ts ts
unfolding UnwindsOn
unwinding_begins u owner kept ts =
    record {
      came = came_self u;
      outermost = λ some. refl;
      hand = λ v s. begins u v owner kept ts s;
      serves = serves_begin u owner kept ts;
      course = λ x rest. rest;
    }

-- one more behind them
hand_on : (v x : PortValue) (owner : ℕ) (kept : Bool) (ts us rs : List TableWork) → outermost_work us ≡ outermost_work ts → UnwoundTo v x owner kept us rs → UnwoundTo v x owner kept ts rs
hand_on v x owner kept ts us [] same hand = hand_alike v x owner kept us ts same hand
hand_on v x owner kept ts us (r ∷ rs) same hand = hand

serves_on : (u w x : PortValue) (owner : ℕ) (kept : Bool) (ts us rs : List TableWork) → outermost_work us ≡ outermost_work ts → Came u w → CarriesOn u w owner ts us [] → ServesTo w x owner kept us rs → ServesTo u x owner kept ts rs
serves_on u w x owner kept ts us [] same came goes left = subst (λ f. ServesLeft u x owner kept f ts []) (frame_alike us ts same) (left_behind u w x owner kept (outermost_frame us) ts us [] [] came goes left)
serves_on u w x owner kept ts us (r ∷ rs) same came goes left = goes_then u w x owner ts us (r ∷ rs) [] [] goes left

module _ {u w : PortValue} {owner : ℕ} {kept : Bool} {ts : List TableWork} {t : TableWork} {us : List TableWork} (g : Unwinding u w owner kept ts (t ∷ us)) where
  pub unwinding_on : (x : PortValue) (rs : List TableWork) → Came w x → (b : Bool) × (rs ≡ around_lent b us) →
      UnwindsTo w x owner kept (t ∷ us) rs → ServesTo w x owner kept (t ∷ us) rs → UnwindsOn w x owner kept (t ∷ us) rs → Unwinding u x owner kept ts rs
  unwinding_on x rs came around hand serves course =
      let same : outermost_work (t ∷ us) ≡ outermost_work ts = g.outermost (λ none. absurd cc) in
      record {
        came = came_trans u w x g.came came;
        outermost = λ some. outermost_left around.0 t us rs around.1 some ∙ same;
        hand = λ v s. hand_on v x owner kept ts (t ∷ us) rs same (hand v (g.hand v s));
        serves = serves_on u w x owner kept ts (t ∷ us) rs same g.came g.serves serves;
        course = unwinds_then u w x owner kept ts (t ∷ us) rs g.course course;
      }

-- none is left
pub unwinding_done : {u w : PortValue} {owner : ℕ} {kept : Bool} {ts us : List TableWork} → us ≡ [] → Unwinding u w owner kept ts us → LeavesAll u w owner kept ts
unfolding UnwindsOn
unwinding_done {u} {w} {owner} {kept} {ts} none i =
    let g = subst (λ (rs : List TableWork). Unwinding u w owner kept ts rs) none i in record { came = g.came; hand = g.hand; serves = g.serves; course = g.course w refl }
