-- A pause parks the tables that are being released, the innermost first, and names the outermost.
use Rattle.std.proofs.Common.{◌≡◌, ℕ, ◌+◌, ◌-◌, ◌<◌, ◌≤◌, true, false, List, [], ◌∷◌, Option, None, refl, sym, ap, ◌∙◌, subst, inl, inr, arith}
use Rattle.xp_words.specs.KindWords.{kind_fields, kind_write}
use Rattle.xp_words.specs.Machine.{Machine}
use Rattle.xp_words.specs.declared.place.Place.{Place}
use Rattle.xp_words.specs.declared.place.Place.TheVariants.{Cell, Clock, Kind, Refs}
use Rattle.xp_board.specs.Acts.{left_by}
use Rattle.xp_board.specs.declared.step.Act.TheVariants.{Load, Store}
use Rattle.xp_board.specs.declared.step.Mark.{Mark}
use Rattle.xp_board.specs.declared.step.StepKind.TheVariants as kinds
use Rattle.xp_board.specs.Told.{PortValue, is_telling, told_word}
use Rattle.step_maker.specs.Moves.{Moves}
use Rattle.step_maker.proofs.Telling.{leaves, load_tells, moves_telling, told_here}
use Rattle.frame_types.specs.Plain.{set_kind}
use Rattle.kind_words.specs.Kinds.{partial_kind}
use Rattle.kind_words.proofs.KindWriting.{fields_write, partial_is}
use Rattle.partial_state.specs.Levels.{level_type}
use Rattle.partial_state.proofs.LevelFacts.{level_type-table, level_type-typed}
use Rattle.partial_state.specs.declared.stack.TableWork.{TableWork}
use Rattle.table_entries.specs.Acquiring.{Named}
use Rattle.table_law.specs.Plain.{Describes, Plain, share_of, sober, with_kind}
use Rattle.table_law.specs.Release.{let_go}
use Rattle.table_law.proofs.Counting.{at_there}
use Rattle.table_words.specs.OldWords.{old_place}
use Rattle.table_words.specs.declared.old_words.OldWord.TheVariants.{First}
use Rattle.table_twins.proofs.Entering.{described_leaves}
use Rattle.course_laws.proofs.Completing.{described_kind, same_kinded, stored_kinded}
use Rattle.level_release.specs.Course.{StoredPartial, UnwoundDown, one_less}
use Rattle.release_laws.specs.Pauses.{IsLeft}
use Rattle.release_laws.proofs.Liking.{IsSpent}
use Rattle.release_laws.proofs.Parking.{parked}
use Rattle.release_laws.proofs.Running.{AreSpent, IsAmong, Leads, above_none, given_back, parked_back, parked_last, under_cells, under_more}

-- the frame and level of the outermost table
abbrev pub IsOutermostOf : ℕ → ℕ → List TableWork → Type 0
IsOutermostOf f level [] = ⊥
IsOutermostOf f level (t ∷ []) = (t.frame ≡ f) × (t.level ≡ level)
IsOutermostOf f level (t ∷ o ∷ ts) = IsOutermostOf f level (o ∷ ts)

-- ---- a table is stored as partial
module _ (n : Machine) (v u : PortValue) (t : TableWork) (p : Plain) (telling : is_telling v ≡ true) (low : 1 ≤ t.level) (few : t.done ≤ 512) (d : Describes n (told_word v) p) (a : StoredPartial v u t) where
  stored_describes : Describes n (told_word u) (with_kind t.frame (partial_kind (level_type t.level) false false (512 - t.done) 0) p)
  stored_describes =
      let k = partial_kind (level_type t.level) false false (512 - t.done) 0 in
      let all = leaves v u (Kind t.frame) (Store (kind_write k)) kinds.Kind None a.0 a.1 telling in
      let written : kind_fields (kind_write k) ≡ k = fields_write k (partial_is (level_type t.level) (level_type-typed t.level) false (512 - t.done) (level_type-table t.level low) (omega arith)) in
      described_kind n (told_word v) (told_word u) p t.frame (kind_write k) k
      (same_kinded (told_word v) (set_kind t.frame k (told_word v)) (told_word u) t.frame (kind_write k) (stored_kinded (told_word v) t.frame k) (λ h. all (Refs h)) (λ h i. all (Cell h i)) (λ h. all (Kind h)))
      (sym (ap sober written)) d

  stored_word : kind_fields (told_word u (Kind t.frame)) ≡ partial_kind (level_type t.level) false false (512 - t.done) 0
  unfolding left_by
  stored_word =
      let k = partial_kind (level_type t.level) false false (512 - t.done) 0 in
      ap kind_fields (told_here v u (Kind t.frame) (Store (kind_write k)) kinds.Kind None a.0 a.1 telling) ∙ fields_write k (partial_is (level_type t.level) (level_type-typed t.level) false (512 - t.done) (level_type-table t.level low) (omega arith))

-- a store into an own word of the vCPU changes no frame
module _ (n : Machine) (v w : PortValue) (f : ℕ) (p : Plain) (telling : is_telling v ≡ true) (d : Describes n (told_word v) p) (a : Named v w f) where
  abbrev place : Place
  place = old_place v.post.vcpu First

  pub named_describes : Describes n (told_word w) p
  unfolding left_by
  named_describes =
      let all = leaves v w place (Store (f + 1)) kinds.Context None 0 a telling in
      record { shares = λ g inside. d.shares g inside ∙ ap share_of (sym (all (Refs g))); kinds = λ g inside. d.kinds g inside ∙ ap (λ x. sober (kind_fields x)) (sym (all (Kind g))); cells = λ g i inside few. d.cells g i inside few ∙ sym (all (Cell g i)) }

  pub named_kind : (g : ℕ) → kind_fields (told_word w (Kind g)) ≡ kind_fields (told_word v (Kind g))
  unfolding left_by
  named_kind g = ap kind_fields (leaves v w place (Store (f + 1)) kinds.Context None 0 a telling (Kind g))

  pub named_there : told_word w (old_place w.post.vcpu First) ≡ f + 1
  unfolding left_by
  named_there = subst (λ (y : PortValue). told_word w (old_place y.post.vcpu First) ≡ f + 1) (sym a.to) (told_here v w place (Store (f + 1)) kinds.Context None 0 a telling)

outermost_less : (f level : ℕ) (o : TableWork) (ts : List TableWork) → IsOutermostOf f level (o ∷ ts) → IsOutermostOf f level (one_less o ∷ ts)
outermost_less f level o [] is = is
outermost_less f level o (t ∷ ts) is = is

-- ---- all of them
spent_off : (t : TableWork) (k : _) (p : Plain) (ts : List TableWork) → (IsAmong ts t.frame → ⊥) → AreSpent ts p → AreSpent ts (with_kind t.frame k p)
spent_off t k p [] off s = tt
spent_off t k p (o ∷ ts) off s = (subst IsSpent (sym (at_there t.frame o.frame k p.kinds (λ e. off (inl e)))) s.0, s.1, spent_off t k p ts (λ one. off (inr one)) s.2)

module _ (n : Machine) (f level : ℕ) (q : Plain) where
  one_left : (t : TableWork) (u x w : PortValue) → (t.frame ≡ f) × (t.level ≡ level) → Leads n u (t ∷ []) q → StoredPartial u x t → Named x w t.frame → IsLeft n w f level q
  one_left t u x w is s stored names =
      let low = s.tables.0 in
      let few = s.tables.2 in
      let kind = partial_kind (level_type t.level) false false (512 - t.done) 0 in
      let p1 = with_kind t.frame kind s.plain in
      let on = moves_telling u x _ _ _ _ _ stored.1 ∙ s.telling in
      let level_is = above_none t.level low in
      let same : p1 ≡ parked (t.level - 1) t.frame (512 - t.done) s.plain = ap (λ k. with_kind t.frame (partial_kind (level_type k) false false (512 - t.done) 0) s.plain) level_is in
      record {
        machine = ap (λ (y : PortValue). y.post.machine) names.to ∙ (ap (λ (y : PortValue). y.post.machine) stored.1.to ∙ s.machine);
        telling = moves_telling x w _ _ _ _ _ names ∙ on;
        plain = p1;
        describes = named_describes n x w t.frame p1 on (stored_describes n u x t s.plain s.telling low few s.describes stored) names;
        held = 512 - t.done;
        few = omega arith;
        stamp = 0;
        word = subst (λ l. kind_fields (told_word w (Kind f)) ≡ partial_kind (level_type l) false false (512 - t.done) 0) is.1
            (subst (λ g. kind_fields (told_word w (Kind g)) ≡ kind) is.0 (named_kind n x w t.frame p1 on (stored_describes n u x t s.plain s.telling low few s.describes stored) names t.frame ∙ stored_word n u x t s.plain s.telling low few s.describes stored));
        inside = subst (λ g. g < n.frames) is.0 s.tables.3;
        low = subst (λ l. 1 ≤ l) is.1 low;
        high = subst (λ l. l ≤ 4) is.1 s.tables.1;
        left = subst (λ l. let_go l f p1 ≡ q) is.1 (subst (λ g. let_go t.level g p1 ≡ q) is.0 (ap (let_go t.level t.frame) same ∙ (parked_last t (t.level - 1) s.plain level_is s.spent.0 ∙ s.left)));
        named = named_there n x w t.frame p1 on (stored_describes n u x t s.plain s.telling low few s.describes stored) names ∙ ap (λ g. g + 1) is.0;
      }

  inner_left : (t o : TableWork) (ts : List TableWork) (u a x : PortValue) (clock : ℕ) (mark : Option Mark) → Leads n u (t ∷ o ∷ ts) q → StoredPartial u a t → Moves a x Clock Load kinds.Look mark clock → Leads n x (one_less o ∷ ts) q
  inner_left t o ts u a x clock mark s stored look =
      let low = s.tables.0 in
      let few = s.tables.2 in
      let others = s.tables.4 in
      let less = others.2 in
      let kind = partial_kind (level_type t.level) false false (512 - t.done) 0 in
      let p1 = with_kind t.frame kind s.plain in
      let on = moves_telling u a _ _ _ _ _ stored.1 ∙ s.telling in
      let level_is = above_none t.level low in
      let same : p1 ≡ parked (t.level - 1) t.frame (512 - t.done) s.plain = ap (λ k. with_kind t.frame (partial_kind (level_type k) false false (512 - t.done) 0) s.plain) level_is in
      record {
        machine = ap (λ (y : PortValue). y.post.machine) look.to ∙ (ap (λ (y : PortValue). y.post.machine) stored.1.to ∙ s.machine);
        telling = moves_telling a x _ _ _ _ _ look ∙ on;
        tables = (others.0, others.1, omega arith, others.3, others.4);
        plain = p1;
        describes = described_leaves n x (told_word a) p1 (load_tells a x Clock kinds.Look mark clock look on) (stored_describes n u a t s.plain s.telling low few s.describes stored);
        spent = spent_off t kind s.plain (o ∷ ts) s.spent.1 s.spent.2;
        under = under_more p1 o (o.done - 1) ts (under_cells s.plain p1 (o ∷ ts) (λ g i. refl) s.under.1);
        left = ap (given_back (one_less o ∷ ts)) same ∙ (parked_back t o ts (t.level - 1) s.plain level_is few less s.spent.0 s.under.0 ∙ s.left);
      }

  pub unwound_left : (t : TableWork) (ts : List TableWork) (u w : PortValue) → IsOutermostOf f level (t ∷ ts) → Leads n u (t ∷ ts) q → UnwoundDown u (t ∷ ts) w → IsLeft n w f level q
  unwound_left t [] u w is s down = one_left t u down.0 w is s down.1 down.2
  unwound_left t (o ∷ ts) u w is s down =
      unwound_left (one_less o) ts down.0 w (outermost_less f level o ts is) (inner_left t o ts u down.1.1.0 down.0 down.1.1.2.0 _ s down.1.1.1 down.1.1.2.1) down.2
