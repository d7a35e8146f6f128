-- A pause parks the tables in work, the innermost first.
use Rattle.std.proofs.Common.{◌≡◌, ◌⊎◌, ℕ, ◌+◌, ◌-◌, ◌||◌, not, if◌then◌else◌, Bool, true, false, List, [], ◌∷◌, None, IsTrue, refl, sym, ap, ◌∙◌, subst, inl, inr, ◌≢◌}
use Rattle.std.proofs.Math.Path.{fun_ext}
use Rattle.xp_words.specs.KindWords.{is_kind, kind_fields, kind_write}
use Rattle.xp_words.specs.Machine.{Machine}
use Rattle.xp_words.specs.declared.place.Place.{Place}
use Rattle.xp_words.specs.declared.kind.KindWord.{KindWord}
use Rattle.xp_words.specs.declared.place.Place.TheVariants.{Cell, Kind, Life, Refs}
use Rattle.xp_board.specs.declared.step.Act.TheVariants.{Load}
use Rattle.xp_board.specs.declared.step.StepKind.TheVariants as kinds
use Rattle.xp_board.specs.Readings.{is_dead}
use Rattle.xp_board.specs.Told.{Post, PortValue, is_telling, told_word}
use Rattle.step_maker.specs.Plain.{Words}
use Rattle.step_maker.specs.Moves.{Came, Moment, Moves}
use Rattle.step_maker.proofs.Coming.{came_post, came_self, came_trans, met_after, moves_came}
use Rattle.step_maker.proofs.Telling.{came_telling, leaves, load_tells}
use Rattle.step_maker.proofs.Alikes.{same_alike}
use Rattle.frame_words.specs.Plain.{put}
use Rattle.frame_types.specs.Plain.{set_kind}
use Rattle.kind_words.specs.Kinds.{partial_kind}
use Rattle.kind_words.proofs.KindWriting.{fields_write, partial_is}
use Rattle.kept_marks.specs.Marks as marks
use Rattle.kept_marks.specs.Marks.{KeptFor, LeftSo}
use Rattle.partial_state.specs.Levels.{level_type}
use Rattle.partial_state.proofs.LevelFacts.{level_type-table, level_type-typed}
use Rattle.partial_state.specs.declared.stack.TableWork.{TableWork}
use Rattle.table_law.specs.Alone.{PlainOutcome}
use Rattle.table_law.specs.Plain.{Describes, Plain, Share, at, reference_back, sober}
use Rattle.table_law.proofs.Counting.{at_here, at_there}
use Rattle.table_twins.proofs.Kinding.{described_alike}
use Rattle.table_twins.proofs.Sharing.{same_back}
use Rattle.table_entries.specs.Acquiring.{InnerLeft, OutermostLeft, Unwound, around_left}
use Rattle.table_entries.proofs.Shared.{gave_came}
use Rattle.course_laws.specs.Courses.{FindsAlive}
use Rattle.course_laws.proofs.Outermost.{IsOutermost}
use Rattle.course_laws.proofs.Walking.{inner_came}
use Rattle.course_laws.proofs.Completing.{IsKinded, back_lent, described_kind, put_kind, same_kinded, spelled_kind, stored_kinded}
use Rattle.course_laws.proofs.Halfway.{Half, onto, over, overlay, tables_onto}
use Rattle.course_laws.proofs.Extras.{described_same, extra, lent, more_of}
use Rattle.course_laws.proofs.Pacing.{Aim, Flagged, IsLastSettled, extra_own, lent_same}
use Rattle.course_laws.proofs.Under.{Spelled, TableOf, Under, spelled_same}

-- a resumption
abbrev pub part : PlainOutcome → Aim
part o = record { outcome = o; whole = false }

-- ---- the words of a pause
abbrev pub parked_over : Bool → TableWork → List TableWork → Plain → Plain
parked_over kept t rs p = record { shares = p.shares; kinds = at t.frame (partial_kind (level_type t.level) kept false t.done 0) (over rs p.kinds); cells = p.cells }

-- all tables are parked: the outermost keeps its type count in its own mark
pub record Parked (n : Machine) (owner : ℕ) (m : Words) (f level : ℕ) (a : PlainOutcome) : Type 0 where
  pub table : TableWork
  pub inner : List TableWork
  pub plain : Plain
  pub frame : table.frame ≡ f
  pub level_is : table.level ≡ level
  pub own : table.own ≡ true
  pub under_way : table.recorded ≡ false
  pub under : Under n owner plain (onto inner (table ∷ [])) a
  pub describes : Describes n m (lent (extra (table ∷ [])) (parked_over true table inner plain))
  pub spelled : Spelled n m (parked_over true table inner plain)
  pub settled : IsLastSettled n plain (onto inner (table ∷ []))

module _ (n : Machine) (owner : ℕ) (m : Words) (rs : List TableWork) (t : TableWork) (us : List TableWork) (a : PlainOutcome) (h : Half n owner m rs (t ∷ us) (part a)) where
  here : TableOf n owner h.plain t
  here = (tables_onto n owner h.plain rs (t ∷ us) h.under.tables).0

  -- it is stored as partial
  module _ (x : Words) (kept : Bool) (stored : IsKinded m x t.frame (kind_write (partial_kind (level_type t.level) kept false t.done 0))) where
    written : kind_fields (kind_write (partial_kind (level_type t.level) kept false t.done 0)) ≡ partial_kind (level_type t.level) kept false t.done 0
    written = fields_write (partial_kind (level_type t.level) kept false t.done 0) (partial_is (level_type t.level) (level_type-typed t.level) kept t.done (level_type-table t.level here.low) here.few)

    parked_described : Describes n x (lent (extra (t ∷ us)) (parked_over kept t rs h.plain))
    parked_described = described_kind n m x (lent (extra (t ∷ us)) (overlay rs h.plain)) t.frame _ (partial_kind (level_type t.level) kept false t.done 0) stored (sym (ap sober written)) h.describes

    partial_out : (is_dead (partial_kind (level_type t.level) kept false t.done 0) ≡ true) ⊎ ((partial_kind (level_type t.level) kept false t.done 0).validated ≡ true) → ⊥
    partial_out (inl dead) = cc
    partial_out (inr live) = cc

    parked_spelled : Spelled n x (parked_over kept t rs h.plain)
    parked_spelled =
        let k = partial_kind (level_type t.level) kept false t.done 0 in
        let here : (parked_over kept t rs h.plain).kinds t.frame ≡ k = at_here t.frame k (over rs h.plain.kinds) in
        spelled_kind n m x (overlay rs h.plain) (parked_over kept t rs h.plain) t.frame _ stored (λ g off. at_there t.frame g k (over rs h.plain.kinds) off) h.spelled
        (λ out. absurd (partial_out (subst (λ j. (is_dead j ≡ true) ⊎ (j.validated ≡ true)) here out)))

  -- the outermost
  pub outermost_parked : (x : Words) (f level : ℕ) → us ≡ [] → IsKinded m x t.frame (kind_write (partial_kind (level_type t.level) true false t.done 0)) → t.frame ≡ f → t.level ≡ level → t.own ≡ true → t.recorded ≡ false → Parked n owner x f level a
  outermost_parked x f level only stored frame level_is own under_way =
      record {
        table = t;
        inner = rs;
        plain = h.plain;
        frame = frame;
        level_is = level_is;
        own = own;
        under_way = under_way;
        under = subst (λ us. Under n owner h.plain (onto rs (t ∷ us)) a) only h.under;
        describes = subst (λ us. Describes n x (lent (extra (t ∷ us)) (parked_over true t rs h.plain))) only (parked_described x true stored);
        spelled = parked_spelled x true stored;
        settled = subst (λ us. IsLastSettled n h.plain (onto rs (t ∷ us))) only h.settled;
      }

  -- one with its own type count, and one without
  rest_flags : (ts : List TableWork) → Flagged (t ∷ ts) → Flagged ts
  rest_flags [] f = tt
  rest_flags (o ∷ ts) f = f.1

  pub own_parked : (x : Words) → t.own ≡ true → IsKinded m x t.frame (kind_write (partial_kind (level_type t.level) false false t.done 0)) → Half n owner x (t ∷ rs) us (part a)
  own_parked x own stored =
      record {
        plain = h.plain;
        under = h.under;
        describes = described_same n x (lent (extra (t ∷ us)) (overlay (t ∷ rs) h.plain)) (lent (extra us) (overlay (t ∷ rs) h.plain)) (lent_same (extra (t ∷ us)) (extra us) (overlay (t ∷ rs) h.plain) (λ g. sym (extra_own t us own g))) (parked_described x false stored);
        spelled = parked_spelled x false stored;
        flags = rest_flags us h.flags;
        mine = λ whole. absurd cc;
        settled = h.settled;
      }

  pub shared_parked : (b x : Words) → t.own ≡ false → IsKinded m b t.frame (kind_write (partial_kind (level_type t.level) false false t.done 0)) → ((q : Place) → x q ≡ put t.frame b q) → Half n owner x (t ∷ rs) us (part a)
  shared_parked b x shared stored puts =
      let p = overlay (t ∷ rs) h.plain in
      let q = lent (extra (t ∷ us)) p in
      let s : Share = record { owner = here.share.owner; allocated = here.share.allocated; count = here.share.count + extra (t ∷ us) t.frame } in
      record {
        plain = h.plain;
        under = h.under;
        describes = described_same n x (reference_back t.frame q) (lent (extra us) p) (back_lent t us shared p here.share here.was here.some)
            (described_alike n x (put t.frame b) (reference_back t.frame q) (same_alike x (put t.frame b) puts) (same_back n b q t.frame s (parked_described b false stored) here.inside (ap (more_of (extra (t ∷ us) t.frame)) here.was)));
        spelled = λ g inside out. subst (λ w. IsTrue (is_kind (kind_fields w))) (sym (puts (Kind g) ∙ put_kind t.frame g b)) (parked_spelled b false stored g inside out);
        flags = rest_flags us h.flags;
        mine = λ whole. absurd cc;
        settled = h.settled;
      }

-- ---- from port to port
pub record HalfAt (n : Machine) (owner : ℕ) (u : PortValue) (rs us : List TableWork) (a : Aim) : Type 0 where
  pub machine : u.post.machine ≡ n
  pub telling : is_telling u ≡ true
  pub half : Half n owner (told_word u) rs us a

pub record ParkedAt (n : Machine) (owner : ℕ) (u : PortValue) (f level : ℕ) (a : PlainOutcome) : Type 0 where
  pub machine : u.post.machine ≡ n
  pub telling : is_telling u ≡ true
  pub parked : Parked n owner (told_word u) f level a

left_kinded : (v w : PortValue) (t : TableWork) (kept : Bool) → is_telling v ≡ true → LeftSo v w t.frame (partial_kind (level_type t.level) kept false t.done 0) → IsKinded (told_word v) (told_word w) t.frame (kind_write (partial_kind (level_type t.level) kept false t.done 0))
left_kinded v w t kept telling left =
    let new = partial_kind (level_type t.level) kept false t.done 0 in
    let all = leaves v w _ _ _ _ _ left.1 telling in
    same_kinded (told_word v) (set_kind t.frame new (told_word v)) (told_word w) t.frame (kind_write new) (stored_kinded (told_word v) t.frame new) (λ h. all (Refs h)) (λ h i. all (Cell h i)) (λ h. all (Kind h))

-- a frame that is left with its mark: where its domain is not found dying nothing else is left there
pub record IsHome (v w : PortValue) (f : ℕ) (k : KindWord) : Type 0 where
  pub left : PortValue
  pub marked : LeftSo v left f k
  pub same : (q : Place) → told_word w q ≡ told_word left q
  pub came : Came left w

found_dying : (v u x w : PortValue) (owner life : ℕ) → Came v u → Moves u x (Life owner) Load kinds.Look None life → Came x w → life ≢ 0 → FindsAlive v w owner → ⊥
found_dying v u x w owner life before look after off finds =
    let m : Moment = record { place = Life owner; act = Load; kind = kinds.Look; mark = None; found = life; hand = u.holdings } in
    off (finds m (record { from = u; to = x; before = before; moved = record { moves = look; hand = refl }; after = after }) refl)

pub at_home : (v w : PortValue) (f : ℕ) (k : KindWord) (owner : ℕ) → is_telling v ≡ true → KeptFor v w f k owner → FindsAlive v w owner → IsHome v w f k
at_home v w f k owner telling (marks.own home a) finds = record { left = w; marked = a; same = λ q. refl; came = came_self w }
at_home v w f k owner telling (marks.alive u foreign a look) finds =
    record {
      left = u;
      marked = a;
      same = load_tells u w _ _ _ _ look (came_telling v u (moves_came v u _ _ _ _ _ a.1) ∙ telling);
      came = moves_came u w _ _ _ _ _ look;
    }
at_home v w f k owner telling (marks.dying u x y life foreign a look off back names) finds =
    absurd (found_dying v u x w owner life (moves_came v u _ _ _ _ _ a.1) look (came_trans x y w (moves_came x y _ _ _ _ _ back) (moves_came y w _ _ _ _ _ names)) off finds)
at_home v w f k owner telling (marks.taken u x life found foreign a look off back other) finds =
    absurd (found_dying v u x w owner life (moves_came v u _ _ _ _ _ a.1) look (moves_came x w _ _ _ _ _ back) off finds)

pub half_same : (n : Machine) (owner : ℕ) (m x : Words) (rs us : List TableWork) (a : Aim) → ((q : Place) → x q ≡ m q) → Half n owner m rs us a → Half n owner x rs us a
half_same n owner m x rs us a same h =
    let alike = same_alike x m same in
    record {
      plain = h.plain;
      under = h.under;
      describes = described_alike n x m (lent (extra us) (overlay rs h.plain)) alike h.describes;
      spelled = spelled_same n m x (overlay rs h.plain) (overlay rs h.plain) (λ g inside. h.describes.kinds g inside) h.spelled alike (λ g. refl);
      flags = h.flags;
      mine = h.mine;
      settled = h.settled;
    }

module _ (n : Machine) (owner f level : ℕ) (a : PlainOutcome) where
  inner_by : (own : Bool) (v u : PortValue) (t o : TableWork) (rs ts : List TableWork) → t.own ≡ own → HalfAt n owner v rs (t ∷ o ∷ ts) (part a) → InnerLeft v u t o t.own → HalfAt n owner u (t ∷ rs) (o ∷ ts) (part a) × (around_left t o ≡ o)
  inner_by true v u t o rs ts own g left =
      let l = (subst (λ b. InnerLeft v u t o b) own left).1 in
      let mid = l.0 in
      let came = moves_came v mid _ _ _ _ _ l.1.1 in
      let telling = came_telling v mid came ∙ g.telling in
      let load = l.2.1 in
      let half = own_parked n owner (told_word v) rs t (o ∷ ts) a g.half (told_word mid) own (left_kinded v mid t false g.telling l.1) in
      let moved = moves_came mid u _ _ _ _ _ load in (
        record {
          machine = ap (λ (p : Post). p.machine) (came_post mid u moved) ∙ (ap (λ (p : Post). p.machine) (came_post v mid came) ∙ g.machine);
          telling = came_telling mid u moved ∙ telling;
          half = half_same n owner (told_word mid) (told_word u) (t ∷ rs) (o ∷ ts) (part a) (load_tells mid u _ _ _ _ load telling) half;
        },
        ap (λ b. if b || t.recorded then o else record o { done = o.done - 1 }) own,
      )
  inner_by false v u t o rs ts own g left =
      let on : t.recorded ≡ true = g.half.flags.0 ∙ ap not own in
      let l = subst (λ b. InnerLeft v u t o b) own left in
      let mid = l.0 in
      let came = moves_came v mid _ _ _ _ _ l.1.1 in
      let telling = came_telling v mid came ∙ g.telling in
      let half = shared_parked n owner (told_word v) rs t (o ∷ ts) a g.half (told_word mid) (told_word u) own (left_kinded v mid t false g.telling l.1) (l.2.plain telling) in
      let moved = gave_came mid u t.frame l.2 in (
        record {
          machine = ap (λ (p : Post). p.machine) (came_post mid u moved) ∙ (ap (λ (p : Post). p.machine) (came_post v mid came) ∙ g.machine);
          telling = came_telling mid u moved ∙ telling;
          half = half;
        },
        ap (λ b. if b || t.recorded then o else record o { done = o.done - 1 }) own ∙ ap (λ b. if b then o else record o { done = o.done - 1 }) on,
      )

  pub unwound : (us rs : List TableWork) (t : TableWork) (v w : PortValue) → HalfAt n owner v rs (t ∷ us) (part a) → IsOutermost f level (t ∷ us) → Unwound v owner (t ∷ us) true w → FindsAlive v w owner → ParkedAt n owner w f level a
  unwound [] rs t v w g outer left finds =
      let own = g.half.flags.0 in
      let home = at_home v w t.frame _ owner g.telling (subst (λ b. OutermostLeft v w owner t b true) own left) finds in
      let came = came_trans v home.left w (moves_came v home.left _ _ _ _ _ home.marked.1) home.came in
      let words : told_word w ≡ told_word home.left = fun_ext home.same in
      record {
        machine = ap (λ (p : Post). p.machine) (came_post v w came) ∙ g.machine;
        telling = came_telling v w came ∙ g.telling;
        parked = subst (λ m. Parked n owner m f level a) (sym words)
            (outermost_parked n owner (told_word v) rs t [] a g.half (told_word home.left) f level refl (left_kinded v home.left t true g.telling home.marked) outer.0 outer.1 own g.half.flags.1);
      }
  unwound (o ∷ ts) rs t v w g outer left finds =
      let b = inner_by t.own v left.0 t o rs ts refl g left.1 in
      let came = inner_came v left.0 t o t.own left.1 in
      unwound ts (t ∷ rs) o left.0 w b.0 outer (subst (λ k. Unwound left.0 owner (k ∷ ts) true w) b.1 left.2) (λ m met. finds m (met_after v left.0 w m came met))
