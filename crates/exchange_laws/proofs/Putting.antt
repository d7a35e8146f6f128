-- A word that is put into an entry, on words as on the plain value.
use Rattle.std.proofs.Common.{◌≡◌, ◌≢◌, ℕ, ◌==◌, ◌&&◌, if◌then◌else◌, Bool, true, false, Result, Ok, Err, refl, sym, ap, ◌∙◌, arith}
use Rattle.std.proofs.lemmas.Bool.Decides.{nat_tests}
use Rattle.xp_words.specs.KindWords.{kind_fields}
use Rattle.xp_words.specs.Machine.{Machine}
use Rattle.xp_words.specs.declared.place.Place.{Place}
use Rattle.xp_words.specs.declared.place.Place.TheVariants.{Cell, Kind, Refs}
use Rattle.xp_words.specs.declared.reply.Stop.{Stop}
use Rattle.xp_board.specs.Acts.{left_by}
use Rattle.xp_board.specs.declared.step.Act.TheVariants.{Store}
use Rattle.xp_board.specs.Told.{PortValue, is_telling, told_word}
use Rattle.step_maker.specs.Moves.{Came}
use Rattle.step_maker.proofs.Coming.{moves_came}
use Rattle.step_maker.proofs.Telling.{told_elsewhere, told_here, told_there}
use Rattle.step_maker.proofs.Noting.{swapped}
use Rattle.table_law.specs.Alone.{PlainOutcome}
use Rattle.table_law.specs.Plain.{Describes, Plain, share_of, sober}
use Rattle.entry_exchange.specs.Course as course
use Rattle.entry_exchange.specs.Course.{PutEntry}
use Rattle.table_law.specs.Exchange.{with_cell}
use Rattle.exchange_laws.specs.Plain.{ExchangesAsPlain}

-- ---- one cell
record IsPut (v y : PortValue) (f i old new : ℕ) : Type 0 where
  pub was : told_word v (Cell f i) ≡ old
  pub is : told_word y (Cell f i) ≡ new
  pub others : (q : Place) → q ≢ Cell f i → told_word y q ≡ told_word v q

written : (old new : ℕ) → left_by (Store new) old ≡ new
unfolding left_by
written old new = refl

module _ (n : Machine) (v y : PortValue) (f i old new : ℕ) (put : IsPut v y f i old new) (p : Plain) (d : Describes n (told_word v) p) where
  cell_by : (b c : Bool) (g j : ℕ) → (g == f) ≡ b → (j == i) ≡ c → p.cells g j ≡ told_word v (Cell g j) → (if b && c then new else p.cells g j) ≡ told_word y (Cell g j)
  cell_by true true g j one two same =
      let a : g ≡ f = grind (arith, nat_tests) in
      let b : j ≡ i = grind (arith, nat_tests) in
      sym put.is ∙ ap (λ h. told_word y (Cell h i)) (sym a) ∙ ap (λ k. told_word y (Cell g k)) (sym b)
  cell_by true false g j one two same = same ∙ sym (put.others (Cell g j) (λ e. let k : j ≡ i = cc in let off : j ≢ i = grind (arith, nat_tests) in off k))
  cell_by false c g j one two same = same ∙ sym (put.others (Cell g j) (λ e. let k : g ≡ f = cc in let off : g ≢ f = grind (arith, nat_tests) in off k))

  put_described : Describes n (told_word y) (with_cell f i new p)
  put_described =
      record {
        shares = λ g inside. d.shares g inside ∙ sym (ap share_of (put.others (Refs g) (λ e. cc)));
        kinds = λ g inside. d.kinds g inside ∙ sym (ap (λ w. sober (kind_fields w)) (put.others (Kind g) (λ e. cc)));
        cells = λ g j inside few. cell_by (g == f) (j == i) g j refl refl (d.cells g j inside few);
      }

-- ---- as it is put
-- there, with the old word as the answer; or it stops, and not with a refusal
abbrev pub PutsAsPlain : Machine → PortValue → PortValue → ℕ → ℕ → ℕ → Plain → Result ℕ Stop → Type 0
PutsAsPlain n v y f i new p (Ok old) = (told_word v (Cell f i) ≡ old) × Describes n (told_word y) (with_cell f i new p)
PutsAsPlain n v y f i new p (Err e) = (w : PortValue) (level : ℕ) (a : PlainOutcome) → ExchangesAsPlain n w level a (Err e)

pub entry_put : (n : Machine) (v y : PortValue) (f i seen new : ℕ) (keep : Bool) (r : Result ℕ Stop) (p : Plain) → is_telling v ≡ true → Describes n (told_word v) p → PutEntry v y f i seen new keep r → PutsAsPlain n v y f i new p r
entry_put n v y f i seen new _ _ p telling d (course.stored old step) =
    let put : IsPut v y f i old new = record { was = told_there v y _ _ _ _ _ step telling; is = told_here v y _ _ _ _ _ step telling ∙ written old new; others = told_elsewhere v y _ _ _ _ _ step } in
    (put.was, put_described n v y f i old new put p d)
entry_put n v y f i seen new _ _ p telling d (course.exchanged step) =
    let put : IsPut v y f i seen new = record { was = told_there v y _ _ _ _ _ step telling; is = told_here v y _ _ _ _ _ step telling ∙ swapped seen new; others = told_elsewhere v y _ _ _ _ _ step } in
    (put.was, put_described n v y f i seen new put p d)
entry_put n v y f i seen new _ _ p telling d (course.lost found off step) = λ w level a. tt

pub put_came : (v y : PortValue) (f i seen new : ℕ) (keep : Bool) (r : Result ℕ Stop) → PutEntry v y f i seen new keep r → Came v y
put_came v y f i seen new _ _ (course.stored old step) = moves_came v y _ _ _ _ _ step
put_came v y f i seen new _ _ (course.exchanged step) = moves_came v y _ _ _ _ _ step
put_came v y f i seen new _ _ (course.lost found off step) = moves_came v y _ _ _ _ _ step
