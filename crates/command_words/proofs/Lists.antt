-- What `clap` makes of the lists of words that are known.
use Rattle.std.proofs.Common.{◌≡◌, ℕ, Bool, true, false, List, [], ◌∷◌, ◌++◌, codes, eqb, refl, inl, inr}
use Rattle.clap.specs.Words.{Text, is_simple, subcommand_of, takes}
use Rattle.clap.proofs.OnLiterals.{clap_on_literals}
use Rattle.command_words.specs.Words.{command_word}
use Rattle.command_words.specs.Table.{SpellsFlag, flag_found, found_with, table, text_found}
use Rattle.command_words.specs.declared.asked.CommandName.{CommandName}
use Rattle.command_words.specs.declared.asked.CommandName.TheVariants as names
use Rattle.command_words.proofs.Spellings.{Spelled}

-- clap takes the words, and finds this command, with the text of its number, and the flag or not
pub record Reads (words : List Text) (name : CommandName) (text : Text) (steps : Bool) : Type 0 where
  pub taken : takes table words ≡ true
  pub found : text_found name (subcommand_of table words) ≡ found_with name text
  pub flag : SpellsFlag (flag_found (subcommand_of table words)) steps

-- the commands that may have a pace
unfoldable pub is_paced : CommandName → Bool
is_paced names.Turns = true
is_paced names.Replay = true
is_paced names.Image = true
is_paced names.Generate = false
is_paced names.Audit = false
is_paced names.Draw = false

-- those that may have a path
unfoldable pub is_reading : CommandName → Bool
is_reading names.Turns = false
is_reading names.Replay = false
is_reading names.Image = false
is_reading names.Generate = false
is_reading names.Audit = true
is_reading names.Draw = true

pub alone : (name : CommandName) → is_paced name ≡ true → Reads (command_word name ∷ []) name (codes "0") false
unfolding clap_on_literals is_paced
alone names.Turns e = record { taken = refl; found = refl; flag = inr refl }
alone names.Replay e = record { taken = refl; found = refl; flag = inl refl }
alone names.Image e = record { taken = refl; found = refl; flag = inl refl }
alone names.Generate e = cc
alone names.Audit e = cc
alone names.Draw e = cc

module _ (c : ℕ) (cs : List ℕ) (s : Spelled 0 1000000 c cs) where
  pub apart : (name : CommandName) → is_paced name ≡ true → Reads (command_word name ∷ codes "--preempt" ∷ (c ∷ cs) ∷ []) name (c ∷ cs) false
  unfolding clap_on_literals is_paced
  apart names.Turns e = record {
    taken = rw (s.no_minus, s.no_minus, s.no_minus, s.no_plus, s.some, s.digits, s.least, s.most, s.fits) refl;
    found = rw (s.no_minus, s.no_minus, s.no_minus) refl;
    flag = inr (rw (s.no_minus, s.no_minus) refl);
  }
  apart names.Replay e = record {
    taken = rw (s.no_minus, s.no_minus, s.no_minus, s.no_plus, s.some, s.digits, s.least, s.most, s.fits) refl;
    found = rw (s.no_minus, s.no_minus, s.no_minus) refl;
    flag = inl (rw (s.no_minus, s.no_minus) refl);
  }
  apart names.Image e = record {
    taken = rw (s.no_minus, s.no_minus, s.no_minus, s.no_plus, s.some, s.digits, s.least, s.most, s.fits) refl;
    found = rw (s.no_minus, s.no_minus, s.no_minus) refl;
    flag = inl (rw (s.no_minus, s.no_minus) refl);
  }
  apart names.Generate e = cc
  apart names.Audit e = cc
  apart names.Draw e = cc

  pub joined : (name : CommandName) → is_paced name ≡ true → Reads (command_word name ∷ (codes "--preempt=" ++ (c ∷ cs)) ∷ []) name (c ∷ cs) false
  unfolding clap_on_literals is_paced
  joined names.Turns e = record { taken = rw (s.no_minus, s.no_plus, s.some, s.digits, s.least, s.most, s.fits) refl; found = rw s.no_minus refl; flag = inr refl }
  joined names.Replay e = record { taken = rw (s.no_minus, s.no_plus, s.some, s.digits, s.least, s.most, s.fits) refl; found = rw s.no_minus refl; flag = inl refl }
  joined names.Image e = record { taken = rw (s.no_minus, s.no_plus, s.some, s.digits, s.least, s.most, s.fits) refl; found = rw s.no_minus refl; flag = inl refl }
  joined names.Generate e = cc
  joined names.Audit e = cc
  joined names.Draw e = cc

-- `turns` with the steps
pub steps_alone : Reads (command_word names.Turns ∷ codes "--steps" ∷ []) names.Turns (codes "0") true
unfolding clap_on_literals
steps_alone = record { taken = refl; found = refl; flag = refl }

-- before a pace or behind it
module _ (c : ℕ) (cs : List ℕ) (s : Spelled 0 1000000 c cs) where
  pub steps_apart : Reads (command_word names.Turns ∷ codes "--steps" ∷ codes "--preempt" ∷ (c ∷ cs) ∷ []) names.Turns (c ∷ cs) true
  unfolding clap_on_literals
  steps_apart = record {
    taken = rw (s.no_minus, s.no_minus, s.no_minus, s.no_plus, s.some, s.digits, s.least, s.most, s.fits) refl;
    found = rw (s.no_minus, s.no_minus, s.no_minus) refl;
    flag = rw (s.no_minus, s.no_minus) refl;
  }

  pub apart_steps : Reads (command_word names.Turns ∷ codes "--preempt" ∷ (c ∷ cs) ∷ codes "--steps" ∷ []) names.Turns (c ∷ cs) true
  unfolding clap_on_literals
  apart_steps = record {
    taken = rw (s.no_minus, s.no_minus, s.no_minus, s.no_plus, s.some, s.digits, s.least, s.most, s.fits) refl;
    found = rw (s.no_minus, s.no_minus, s.no_minus) refl;
    flag = rw (s.no_minus, s.no_minus) refl;
  }

  pub steps_joined : Reads (command_word names.Turns ∷ codes "--steps" ∷ (codes "--preempt=" ++ (c ∷ cs)) ∷ []) names.Turns (c ∷ cs) true
  unfolding clap_on_literals
  steps_joined = record { taken = rw (s.no_minus, s.no_plus, s.some, s.digits, s.least, s.most, s.fits) refl; found = rw s.no_minus refl; flag = refl }

  pub joined_steps : Reads (command_word names.Turns ∷ (codes "--preempt=" ++ (c ∷ cs)) ∷ codes "--steps" ∷ []) names.Turns (c ∷ cs) true
  unfolding clap_on_literals
  joined_steps = record { taken = rw (s.no_minus, s.no_plus, s.some, s.digits, s.least, s.most, s.fits) refl; found = rw s.no_minus refl; flag = refl }

pub counted : (c : ℕ) (cs : List ℕ) → Spelled 1 60000 c cs → Reads (command_word names.Generate ∷ (c ∷ cs) ∷ []) names.Generate (c ∷ cs) false
unfolding clap_on_literals
counted c cs s = record {
  taken = rw (s.no_minus, s.no_minus, s.no_minus, s.no_plus, s.some, s.digits, s.least, s.most, s.fits) refl;
  found = rw (s.no_minus, s.no_minus, s.no_minus) refl;
  flag = inl (rw (s.no_minus, s.no_minus) refl);
}

-- `audit` or `draw`, alone or with a path
pub reads_alone : (name : CommandName) → is_reading name ≡ true → Reads (command_word name ∷ []) name [] false
unfolding clap_on_literals is_reading
reads_alone names.Audit e = record { taken = refl; found = refl; flag = inl refl }
reads_alone names.Draw e = record { taken = refl; found = refl; flag = inl refl }
reads_alone names.Turns e = cc
reads_alone names.Replay e = cc
reads_alone names.Image e = cc
reads_alone names.Generate e = cc

pub reads_file : (c : ℕ) (cs : List ℕ) → eqb c 45 ≡ false → (name : CommandName) → is_reading name ≡ true → Reads (command_word name ∷ (c ∷ cs) ∷ []) name [] false
unfolding clap_on_literals is_reading
reads_file c cs no_minus names.Audit e = record {
  taken = rw (no_minus, no_minus) refl;
  found = refl;
  flag = inl (rw (no_minus, no_minus) refl);
}
reads_file c cs no_minus names.Draw e = record {
  taken = rw (no_minus, no_minus) refl;
  found = refl;
  flag = inl (rw (no_minus, no_minus) refl);
}
reads_file c cs no_minus names.Turns e = cc
reads_file c cs no_minus names.Replay e = cc
reads_file c cs no_minus names.Image e = cc
reads_file c cs no_minus names.Generate e = cc

pub is_plain : is_simple table ≡ true
unfolding clap_on_literals
is_plain = refl
