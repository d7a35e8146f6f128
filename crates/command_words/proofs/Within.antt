-- How many operations words may ask for.
use Rattle.std.proofs.Common.{◌≡◌, ℕ, ◌≤◌, Bool, true, false, ◌&&◌, List, [], ◌∷◌, Option, Some, None, option_and_then, option_map, cond, leb, refl, leb-true, subst}
use Rattle.std.specs.Option.{option_or}
use Rattle.trace_lines.specs.Numbers.{numeral}
use Rattle.trace_lines.proofs.DigitTable.{both_of as both}
use Rattle.command_words.specs.Words.{asked_after, asked_as, command_named, number_after, operations_after, pace_after, pace_with_steps, within, words_ask}
use Rattle.command_words.specs.declared.asked.Asked.{Asked}
use Rattle.command_words.specs.declared.asked.Asked.TheVariants as asks
use Rattle.command_words.specs.declared.asked.CommandName.{CommandName}
use Rattle.command_words.specs.declared.asked.CommandName.TheVariants as names

-- only `generate` generates
no_number : (f : ℕ → Asked) (o : Option ℕ) (n : ℕ) → ((k : ℕ) → f k ≡ asks.Generate n → ⊥) → option_map f o ≡ Some (asks.Generate n) → ⊥
no_number f (Some k) n never e = never k (cc)
no_number f None n never e = cc

bounded : (least most : ℕ) (o : Option ℕ) (n : ℕ) → option_map asks.Generate (within least most o) ≡ Some (asks.Generate n) → (least ≤ n) × (n ≤ most)
bounded least most None n e = cc
bounded least most (Some v) n e = by (leb least v && leb v most) refl e
  where
    by : (b : Bool) → (leb least v && leb v most) ≡ b → option_map asks.Generate (cond b (Some v) None) ≡ Some (asks.Generate n) → (least ≤ n) × (n ≤ most)
    by true is h =
        let same : v ≡ n = cc in
        let parts = both (leb least v) (leb v most) is in
        subst (λ k. (least ≤ k) × (k ≤ most)) same (leb-true least v parts.0, leb-true v most parts.1)
    by false is h = cc

counted : (behind : List (List ℕ)) (n : ℕ) → option_map asks.Generate (operations_after behind) ≡ Some (asks.Generate n) → (1 ≤ n) × (n ≤ 60000)
counted [] n h = cc
counted (x ∷ []) n h = bounded 1 60000 (numeral 10 x) n h
counted (x ∷ y ∷ ys) n h = cc

-- with the flag or without
neither : (f g : ℕ → Asked) (o p : Option ℕ) (n : ℕ) → ((k : ℕ) → f k ≡ asks.Generate n → ⊥) → ((k : ℕ) → g k ≡ asks.Generate n → ⊥) → option_or (option_map f o) (option_map g p) ≡ Some (asks.Generate n) → ⊥
neither f g (Some k) p n never never_too e = never k (cc)
neither f g None p n never never_too e = no_number g p n never_too e

alone : (o : Option Asked) (a : Asked) → option_or o None ≡ Some a → o ≡ Some a
alone (Some b) a e = e
alone None a e = e

of_command : (o : Option CommandName) (rest : List (List ℕ)) (n : ℕ) → option_and_then (λ name. asked_after name rest) o ≡ Some (asks.Generate n) → (1 ≤ n) × (n ≤ 60000)
of_command None rest n e = cc
of_command (Some names.Turns) rest n e = absurd (neither (asked_as names.Turns false) (asked_as names.Turns true) (pace_after rest) (pace_with_steps rest) n (λ k h. cc) (λ k h. cc) e)
of_command (Some names.Replay) rest n e = absurd (neither (asked_as names.Replay false) (asked_as names.Replay true) (pace_after rest) None n (λ k h. cc) (λ k h. cc) e)
of_command (Some names.Image) rest n e = absurd (neither (asked_as names.Image false) (asked_as names.Image true) (pace_after rest) None n (λ k h. cc) (λ k h. cc) e)
of_command (Some names.Generate) rest n e = counted rest n (alone (option_map asks.Generate (operations_after rest)) (asks.Generate n) e)
of_command (Some names.Audit) rest n e = absurd (neither (asked_as names.Audit false) (asked_as names.Audit true) (number_after names.Audit rest) None n (λ k h. cc) (λ k h. cc) e)
of_command (Some names.Draw) rest n e = absurd (neither (asked_as names.Draw false) (asked_as names.Draw true) (number_after names.Draw rest) None n (λ k h. cc) (λ k h. cc) e)

pub generated_within : (words : List (List ℕ)) (n : ℕ) → words_ask words ≡ Some (asks.Generate n) → (1 ≤ n) × (n ≤ 60000)
generated_within [] n e = cc
generated_within (w ∷ rest) n e = of_command (command_named w) rest n e
