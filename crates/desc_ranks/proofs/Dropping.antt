-- A type count of a descriptor page is given back: one less, or behind the last one the page is dead.
use Rattle.std.proofs.Common.{◌≡◌, ℕ, ◌-◌, ◌<◌, ◌≤◌, ◌^◌, ◌==◌, Bool, true, false, None, refl, sym, ap, ◌∙◌, subst, arith}
use Rattle.std.proofs.lemmas.Bool.Decides.{nat_tests}
use Rattle.xp_words.specs.KindWords.{kind_fields}
use Rattle.xp_words.specs.declared.kind.KindWord.{KindWord}
use Rattle.xp_words.specs.declared.kind.PageType.TheVariants.{Desc}
use Rattle.xp_words.specs.declared.place.Place.TheVariants.{Clock, Kind}
use Rattle.xp_words.proofs.KindLaws.{fields_back as written}
use Rattle.xp_board.specs.Acts.{left_by}
use Rattle.xp_board.specs.Readings.{kind_at}
use Rattle.xp_board.specs.RefSteps.{one_down}
use Rattle.xp_board.specs.Told.{PortValue, is_telling, told_word}
use Rattle.xp_board.specs.declared.step.Act.TheVariants.{Add, Load}
use Rattle.xp_board.specs.declared.step.StepKind.{StepKind}
use Rattle.xp_board.proofs.KindForms.{fields_down}
use Rattle.step_maker.specs.Moves.{Came, Moves}
use Rattle.step_maker.specs.Plain.{Words}
use Rattle.step_maker.proofs.Coming.{moves_came}
use Rattle.step_maker.proofs.Telling.{came_telling, told_there}
use Rattle.step_maker.specs.Visits.{Does, Only, Then, Where, visit}
use Rattle.step_maker.proofs.Visiting.{does_came}
use Rattle.step_maker.proofs.Parts.{stayed as does_none, parts as does_parts}
use Rattle.frame_words.specs.Freeing.{PutBy}
use Rattle.kind_words.specs.Kinds.{dead_kind}
use Rattle.kind_words.proofs.KindFacts.{clock_is_small}
use Rattle.frame_types.specs.Found.{Dies, DropsPlain, StoresKind}
use Rattle.release_laws.proofs.Parts.{does_only, does_with}
use Rattle.frame_ranks.proofs.Facing.{Turned, at_kind, calm_turned, load_calm, turned_calm, turned_twice}
use Rattle.frame_ranks.proofs.Standings.{rank_desc}
use Rattle.frame_ranks.proofs.Stepping.{puts_calm, stores_turned}
use Rattle.desc_ranks.proofs.Counts.{GivenBack}

pub record Dropped (m x : Words) (f : ℕ) : Type 0 where
  pub word : KindWord
  pub turned : Turned m x f word
  pub given : GivenBack (kind_at m f) word

-- ---- the last step but that of the reference: nothing, or dead with the clock value that was found
module _ (v a : PortValue) (f : ℕ) (telling : is_telling v ≡ true) where
  dies_turned : Does v a (Dies f Desc false) → (clock : ℕ) × Turned (told_word v) (told_word a) f (dead_kind Desc false clock)
  dies_turned d =
      let c = does_with v a (λ (clock : ℕ) vs. Then (Only (visit Clock Load clock)) (StoresKind f (dead_kind Desc false clock)) vs) d in
      let p = does_parts v a (Only (visit Clock Load c.0)) (StoresKind f (dead_kind Desc false c.0)) c.1 in
      let l = does_only v p.0 (visit Clock Load c.0) p.1 in
      let on = came_telling v p.0 (moves_came v p.0 _ _ _ _ _ l.1) ∙ telling in
      let low : c.0 < 2 ^ 36 = clock_is_small v.post.machine v.post.vcpu v.holdings c.0 l.1.finds in (
        c.0,
        calm_turned (told_word v) (told_word p.0) (told_word a) f (dead_kind Desc false c.0) (load_calm v p.0 Clock _ _ c.0 telling l.1)
            (stores_turned p.0 a f (dead_kind Desc false c.0) on (written (dead_kind Desc false c.0) low (omega arith)) p.2),
      )

-- ---- the whole
abbrev Puts : ℕ → PortValue → PortValue → Type 0
Puts f v w = Does v w (PutBy f)

module _ (v w : PortValue) (f : ℕ) (telling : is_telling v ≡ true) (live : (kind_at (told_word v) f).validated ≡ true) (some : 1 ≤ (kind_at (told_word v) f).number) where
  abbrev before : KindWord
  before = kind_at (told_word v) f

  abbrev less : KindWord
  less = record (kind_at (told_word v) f) { number = (kind_at (told_word v) f).number - 1 }

  lowered : (a : PortValue) (x : ℕ) (kind : StepKind) → Moves v a (Kind f) (Add one_down) kind None x → (kind_fields x ≡ before) × Turned (told_word v) (told_word a) f less
  unfolding left_by
  lowered a x kind m =
      let same : told_word v (Kind f) ≡ x = told_there v a (Kind f) (Add one_down) kind None x m telling in
      let fields : kind_fields x ≡ before = ap kind_fields (sym same) in
      let small : x < 2 ^ 64 = subst (λ y. y < 2 ^ 64) m.finds.word (m.finds.sound.spelled.small (Kind f)) in
      let counted : 1 ≤ (kind_fields x).number = subst (λ (k : KindWord). 1 ≤ k.number) (sym fields) some in
      (fields, at_kind v a f (Add one_down) kind None x less telling m (fields_down x small (omega arith) ∙ ap (λ (k : KindWord). record k { number = k.number - 1 }) fields))

  given_by : (a b : PortValue) (c : Bool) → (before.number == 1) ≡ c → Turned (told_word v) (told_word a) f less → Came v a → Does a b (λ vs. Where c (Dies f Desc false) vs) → Puts f b w → Dropped (told_word v) (told_word w) f
  given_by a b true is turned came dies puts =
      let on_a = came_telling v a came ∙ telling in
      let d = dies_turned a b f on_a dies in
      let on_b = came_telling a b (does_came a b _ dies) ∙ on_a in
      let word = dead_kind Desc false d.0 in
      record {
        word = word;
        turned = turned_calm (told_word v) (told_word b) (told_word w) f word (turned_twice (told_word v) (told_word a) (told_word b) f less word turned d.1) (puts_calm b w f puts);
        given = record { more = λ off. absurd (off (let e : before.number ≡ 1 = grind (arith, nat_tests) in e)); last = λ one. (refl, rank_desc word refl refl refl) };
      }
  given_by a b false is turned came none puts =
      let same : b ≡ a = does_none a b none in
      record {
        word = less;
        turned = turned_calm (told_word v) (told_word b) (told_word w) f less (subst (λ (y : PortValue). Turned (told_word v) (told_word y) f less) (sym same) turned) (puts_calm b w f puts);
        given = record { more = λ off. (refl, refl); last = λ one. absurd (let e : (before.number == 1) ≡ true = grind (arith, nat_tests) in let both = sym e ∙ is in cc) };
      }

  pub dropped : DropsPlain v w f Desc → Dropped (told_word v) (told_word w) f
  dropped d =
      let x = does_with v w (λ (y : ℕ) vs. Then (Only (visit (Kind f) (Add one_down) y)) (Then (Where ((kind_fields y).number == 1) (Dies f Desc false)) (PutBy f)) vs) d in
      let p = does_parts v w (Only (visit (Kind f) (Add one_down) x.0)) (Then (Where ((kind_fields x.0).number == 1) (Dies f Desc false)) (PutBy f)) x.1 in
      let m = does_only v p.0 (visit (Kind f) (Add one_down) x.0) p.1 in
      let l = lowered p.0 x.0 m.0 m.1 in
      let q = does_parts p.0 w (Where ((kind_fields x.0).number == 1) (Dies f Desc false)) (PutBy f) p.2 in
      given_by p.0 q.0 ((kind_fields x.0).number == 1) (ap (λ (k : KindWord). k.number == 1) (sym l.0)) l.1 (moves_came v p.0 _ _ _ _ _ m.1) q.1 q.2
