-- Words that ask for something are read by `clap`, as that command with its number.
use Rattle.std.proofs.Common.{◌≡◌, ◌∙◌, ℕ, ◌<◌, ◌^◌, Bool, true, false, not, List, [], ◌∷◌, ◌++◌, Some, None, Option, is_some, option_and_then, option_map, cond, take, drop, codes, if◌then◌else◌, bytes_eq, eqb, refl, sym, ap, subst, arith, lit<, leb-true, take-append-drop}
use Rattle.std.specs.Option.{option_or}
use Rattle.std.specs.Str.Parse.{IsNumeral, digits_value}
use Rattle.std.proofs.lemmas.Slice.Eq.{bytes_eq-Decides}
use Rattle.command_words.specs.Words.{argument_of, asked_after, asked_as, command_named, is_steps, names_source, number_after, number_with_steps, operations_after, operations_in, pace_behind, pace_in, pace_after, pace_with_steps, command_word, words_ask}
use Rattle.command_words.specs.Table.{SpellsNumber}
use Rattle.command_words.specs.declared.asked.Asked.{Asked}
use Rattle.command_words.specs.declared.asked.CommandName.{CommandName}
use Rattle.command_words.specs.declared.asked.CommandName.TheVariants as names
use Rattle.command_words.proofs.Lists.{Reads, alone, apart, apart_steps, counted, is_paced, is_reading, joined, joined_steps, reads_alone, reads_file, steps_alone, steps_apart, steps_joined}
use Rattle.command_words.proofs.Spellings.{no_word, spelled}

pub record Known (words : List (List ℕ)) : Type 0 where
  pub name : CommandName
  pub text : List ℕ
  pub number : ℕ
  pub steps : Bool
  pub reads : Reads words name text steps
  pub spells : SpellsNumber (argument_of name) text number
  pub is : words_ask words ≡ Some (asked_as name steps number)

same : (w : List ℕ) (v : List ℕ) → bytes_eq w v ≡ true → w ≡ v
same w v e = (bytes_eq-Decides w v).0 e

some_if : (b : Bool) (o : Option ℕ) → is_some (cond b o None) ≡ true → (b ≡ true) × (is_some o ≡ true)
some_if true o e = (refl, e)
some_if false o e = cc

some_mapped : {T : Type 0} (f : ℕ → T) (o : Option ℕ) → is_some (option_map f o) ≡ true → is_some o ≡ true
some_mapped f (Some n) e = refl
some_mapped f None e = cc

-- a word that names a command is its name
named : (w : List ℕ) (name : CommandName) → command_named w ≡ Some name → w ≡ command_word name
named w name e = by (bytes_eq w (codes "turns")) (bytes_eq w (codes "replay")) (bytes_eq w (codes "image")) (bytes_eq w (codes "generate")) (bytes_eq w (codes "audit")) (bytes_eq w (codes "draw")) refl refl refl refl refl refl e
  where
    is : (m : CommandName) → bytes_eq w (command_word m) ≡ true → Some m ≡ Some name → w ≡ command_word name
    is m h e = let found : m ≡ name = cc in subst (λ k. w ≡ command_word k) found (same w (command_word m) h)

    by : (t r i g a d : Bool) → bytes_eq w (codes "turns") ≡ t → bytes_eq w (codes "replay") ≡ r → bytes_eq w (codes "image") ≡ i → bytes_eq w (codes "generate") ≡ g → bytes_eq w (codes "audit") ≡ a → bytes_eq w (codes "draw") ≡ d
        → cond t (Some names.Turns) (cond r (Some names.Replay) (cond i (Some names.Image) (cond g (Some names.Generate) (cond a (Some names.Audit) (cond d (Some names.Draw) None))))) ≡ Some name → w ≡ command_word name
    by true r i g a d h0 h1 h2 h3 h4 h5 e = is names.Turns h0 e
    by false true i g a d h0 h1 h2 h3 h4 h5 e = is names.Replay h1 e
    by false false true g a d h0 h1 h2 h3 h4 h5 e = is names.Image h2 e
    by false false false true a d h0 h1 h2 h3 h4 h5 e = is names.Generate h3 e
    by false false false false true d h0 h1 h2 h3 h4 h5 e = is names.Audit h4 e
    by false false false false false true h0 h1 h2 h3 h4 h5 e = is names.Draw h5 e
    by false false false false false false h0 h1 h2 h3 h4 h5 e = cc

pub names_itself : (name : CommandName) → command_named (command_word name) ≡ Some name
names_itself names.Turns = refl
names_itself names.Replay = refl
names_itself names.Image = refl
names_itself names.Generate = refl
names_itself names.Audit = refl
names_itself names.Draw = refl

-- what words behind the command give is asked for with it
asks : (name : CommandName) (rest : List (List ℕ)) (n : ℕ) → number_after name rest ≡ Some n → words_ask (command_word name ∷ rest) ≡ Some (asked_as name false n)
asks name rest n e =
    ap (option_and_then (λ name. asked_after name rest)) (names_itself name)
    ∙ ap (λ o. option_or (option_map (asked_as name false) o) (option_map (asked_as name true) (number_with_steps name rest))) e

-- and with the steps, where they give nothing without them
asks_steps : (rest : List (List ℕ)) (n : ℕ) → pace_after rest ≡ None → pace_with_steps rest ≡ Some n → words_ask (command_word names.Turns ∷ rest) ≡ Some (asked_as names.Turns true n)
asks_steps rest n none e = λ i. option_or (option_map (asked_as names.Turns false) (none i)) (option_map (asked_as names.Turns true) (e i))

paces : (name : CommandName) (rest : List (List ℕ)) → is_paced name ≡ true → number_after name rest ≡ pace_after rest
unfolding is_paced
paces names.Turns rest e = refl
paces names.Replay rest e = refl
paces names.Image rest e = refl
paces names.Generate rest e = cc
paces names.Audit rest e = cc
paces names.Draw rest e = cc

preempts : (name : CommandName) → is_paced name ≡ true → argument_of name ≡ Some (codes "preempt")
unfolding is_paced
preempts names.Turns e = refl
preempts names.Replay e = refl
preempts names.Image e = refl
preempts names.Generate e = cc
preempts names.Audit e = cc
preempts names.Draw e = cc

-- a pace behind the command, written in these words
with_pace : (name : CommandName) (rest : List (List ℕ)) (text : List ℕ) → is_paced name ≡ true → Reads (command_word name ∷ rest) name text false → IsNumeral 10 text → digits_value 10 text < 2 ^ 32
    → pace_after rest ≡ Some (digits_value 10 text) → Known (command_word name ∷ rest)
with_pace name rest text paced reads digits small is = record {
  name = name;
  text = text;
  number = digits_value 10 text;
  steps = false;
  reads = reads;
  spells = subst (λ o. SpellsNumber o text (digits_value 10 text)) (sym (preempts name paced)) (digits, refl, small);
  is = asks name rest _ (paces name rest paced ∙ is);
}

known_apart : (name : CommandName) → is_paced name ≡ true → (p : List ℕ) → is_some (pace_in p) ≡ true → Known (command_word name ∷ codes "--preempt" ∷ p ∷ [])
known_apart name paced [] e = absurd (no_word 0 1000000 e)
known_apart name paced (c ∷ cs) e =
    let s = spelled 0 1000000 (lit< tt) c cs e in
    with_pace name (codes "--preempt" ∷ (c ∷ cs) ∷ []) (c ∷ cs) paced (apart c cs s name paced) s.all (omega (arith, leb-true _ _ s.most)) s.is

known_joined : (name : CommandName) → is_paced name ≡ true → (p : List ℕ) → is_some (pace_in p) ≡ true → Known (command_word name ∷ (codes "--preempt=" ++ p) ∷ [])
known_joined name paced [] e = absurd (no_word 0 1000000 e)
known_joined name paced (c ∷ cs) e =
    let s = spelled 0 1000000 (lit< tt) c cs e in
    with_pace name ((codes "--preempt=" ++ (c ∷ cs)) ∷ []) (c ∷ cs) paced (joined c cs s name paced) s.all (omega (arith, leb-true _ _ s.most)) s.is

known_behind : (name : CommandName) → is_paced name ≡ true → (rest : List (List ℕ)) → is_some (pace_after rest) ≡ true → Known (command_word name ∷ rest)
known_behind name paced [] e = with_pace name [] (codes "0") paced (alone name paced) (lit< tt, (lit< tt, tt)) (lit< tt) refl
known_behind name paced (o ∷ []) e =
    let parts = some_if (bytes_eq (take 10 o) (codes "--preempt=")) (pace_in (drop 10 o)) e in
    let front = same (take 10 o) (codes "--preempt=") parts.0 in
    let whole : codes "--preempt=" ++ drop 10 o ≡ o = ap (λ x. x ++ drop 10 o) (sym front) ∙ take-append-drop 10 o in
    subst (λ x. Known (command_word name ∷ x ∷ [])) whole (known_joined name paced (drop 10 o) parts.1)
known_behind name paced (o ∷ p ∷ []) e =
    let parts = some_if (bytes_eq o (codes "--preempt")) (pace_in p) e in
    subst (λ x. Known (command_word name ∷ x ∷ p ∷ [])) (sym (same o (codes "--preempt") parts.0)) (known_apart name paced p parts.1)
known_behind name paced (o ∷ p ∷ x ∷ xs) e = cc

-- ---- `turns` with the steps
with_steps : (rest : List (List ℕ)) (text : List ℕ) → Reads (command_word names.Turns ∷ rest) names.Turns text true → IsNumeral 10 text → digits_value 10 text < 2 ^ 32
    → pace_after rest ≡ None → pace_with_steps rest ≡ Some (digits_value 10 text) → Known (command_word names.Turns ∷ rest)
with_steps rest text reads digits small none is = record {
  name = names.Turns;
  text = text;
  number = digits_value 10 text;
  steps = true;
  reads = reads;
  spells = (digits, refl, small);
  is = asks_steps rest (digits_value 10 text) none is;
}

steps_known : Known (command_word names.Turns ∷ codes "--steps" ∷ [])
steps_known = with_steps (codes "--steps" ∷ []) (codes "0") steps_alone (lit< tt, (lit< tt, tt)) (lit< tt) refl refl

steps_known_apart : (p : List ℕ) → is_some (pace_in p) ≡ true → Known (command_word names.Turns ∷ codes "--steps" ∷ codes "--preempt" ∷ p ∷ [])
steps_known_apart [] e = absurd (no_word 0 1000000 e)
steps_known_apart (c ∷ cs) e =
    let s = spelled 0 1000000 (lit< tt) c cs e in
    with_steps (codes "--steps" ∷ codes "--preempt" ∷ (c ∷ cs) ∷ []) (c ∷ cs) (steps_apart c cs s) s.all (omega (arith, leb-true _ _ s.most)) refl s.is

known_apart_steps : (p : List ℕ) → is_some (pace_in p) ≡ true → Known (command_word names.Turns ∷ codes "--preempt" ∷ p ∷ codes "--steps" ∷ [])
known_apart_steps [] e = absurd (no_word 0 1000000 e)
known_apart_steps (c ∷ cs) e =
    let s = spelled 0 1000000 (lit< tt) c cs e in
    with_steps (codes "--preempt" ∷ (c ∷ cs) ∷ codes "--steps" ∷ []) (c ∷ cs) (apart_steps c cs s) s.all (omega (arith, leb-true _ _ s.most)) refl s.is

steps_known_joined : (p : List ℕ) → is_some (pace_in p) ≡ true → Known (command_word names.Turns ∷ codes "--steps" ∷ (codes "--preempt=" ++ p) ∷ [])
steps_known_joined [] e = absurd (no_word 0 1000000 e)
steps_known_joined (c ∷ cs) e =
    let s = spelled 0 1000000 (lit< tt) c cs e in
    with_steps (codes "--steps" ∷ (codes "--preempt=" ++ (c ∷ cs)) ∷ []) (c ∷ cs) (steps_joined c cs s) s.all (omega (arith, leb-true _ _ s.most)) refl s.is

known_joined_steps : (p : List ℕ) → is_some (pace_in p) ≡ true → Known (command_word names.Turns ∷ (codes "--preempt=" ++ p) ∷ codes "--steps" ∷ [])
known_joined_steps [] e = absurd (no_word 0 1000000 e)
known_joined_steps (c ∷ cs) e =
    let s = spelled 0 1000000 (lit< tt) c cs e in
    with_steps ((codes "--preempt=" ++ (c ∷ cs)) ∷ codes "--steps" ∷ []) (c ∷ cs) (joined_steps c cs s) s.all (omega (arith, leb-true _ _ s.most)) refl s.is

-- a word that gives a pace is the option with that
whole_word : (o : List ℕ) → is_some (pace_behind o) ≡ true → (codes "--preempt=" ++ drop 10 o ≡ o) × (is_some (pace_in (drop 10 o)) ≡ true)
whole_word o e =
    let parts = some_if (bytes_eq (take 10 o) (codes "--preempt=")) (pace_in (drop 10 o)) e in
    (ap (λ x. x ++ drop 10 o) (sym (same (take 10 o) (codes "--preempt=") parts.0)) ∙ take-append-drop 10 o, parts.1)

known_steps_two : (o p : List ℕ) → is_some (pace_with_steps (o ∷ p ∷ [])) ≡ true → Known (command_word names.Turns ∷ o ∷ p ∷ [])
known_steps_two o p e = by (is_steps o) refl e
  where
    by : (b : Bool) → is_steps o ≡ b → is_some (cond b (pace_behind p) (cond (is_steps p) (pace_behind o) None)) ≡ true → Known (command_word names.Turns ∷ o ∷ p ∷ [])
    by true is h =
        let word = whole_word p h in
        subst (λ x. Known (command_word names.Turns ∷ x ∷ p ∷ [])) (sym (same o (codes "--steps") is)) (subst (λ x. Known (command_word names.Turns ∷ codes "--steps" ∷ x ∷ [])) word.0 (steps_known_joined (drop 10 p) word.1))
    by false is h =
        let parts = some_if (is_steps p) (pace_behind o) h in
        let word = whole_word o parts.1 in
        subst (λ x. Known (command_word names.Turns ∷ o ∷ x ∷ [])) (sym (same p (codes "--steps") parts.0)) (subst (λ x. Known (command_word names.Turns ∷ x ∷ codes "--steps" ∷ [])) word.0 (known_joined_steps (drop 10 o) word.1))

known_steps_three : (o p q : List ℕ) → is_some (pace_with_steps (o ∷ p ∷ q ∷ [])) ≡ true → Known (command_word names.Turns ∷ o ∷ p ∷ q ∷ [])
known_steps_three o p q e = by (is_steps o) refl e
  where
    by : (b : Bool) → is_steps o ≡ b → is_some (cond b (pace_after (p ∷ q ∷ [])) (cond (is_steps q) (pace_after (o ∷ p ∷ [])) None)) ≡ true → Known (command_word names.Turns ∷ o ∷ p ∷ q ∷ [])
    by true is h =
        let parts = some_if (bytes_eq p (codes "--preempt")) (pace_in q) h in
        subst (λ x. Known (command_word names.Turns ∷ x ∷ p ∷ q ∷ [])) (sym (same o (codes "--steps") is))
        (subst (λ x. Known (command_word names.Turns ∷ codes "--steps" ∷ x ∷ q ∷ [])) (sym (same p (codes "--preempt") parts.0)) (steps_known_apart q parts.1))
    by false is h =
        let last = some_if (is_steps q) (pace_after (o ∷ p ∷ [])) h in
        let parts = some_if (bytes_eq o (codes "--preempt")) (pace_in p) last.1 in
        subst (λ x. Known (command_word names.Turns ∷ o ∷ p ∷ x ∷ [])) (sym (same q (codes "--steps") last.0))
        (subst (λ x. Known (command_word names.Turns ∷ x ∷ p ∷ codes "--steps" ∷ [])) (sym (same o (codes "--preempt") parts.0)) (known_apart_steps p parts.1))

known_steps : (rest : List (List ℕ)) → is_some (pace_with_steps rest) ≡ true → Known (command_word names.Turns ∷ rest)
known_steps [] e = cc
known_steps (o ∷ []) e = subst (λ x. Known (command_word names.Turns ∷ x ∷ [])) (sym (same o (codes "--steps") (some_if (is_steps o) (Some 0) e).0)) steps_known
known_steps (o ∷ p ∷ []) e = known_steps_two o p e
known_steps (o ∷ p ∷ q ∷ []) e = known_steps_three o p q e
known_steps (o ∷ p ∷ q ∷ x ∷ xs) e = cc

known_turns : (rest : List (List ℕ)) → is_some (asked_after names.Turns rest) ≡ true → Known (command_word names.Turns ∷ rest)
unfolding is_paced
known_turns rest e = by (pace_after rest) refl e
  where
    by : (o : Option ℕ) → pace_after rest ≡ o → is_some (option_or (option_map (asked_as names.Turns false) o) (option_map (asked_as names.Turns true) (pace_with_steps rest))) ≡ true → Known (command_word names.Turns ∷ rest)
    by (Some n) is h = known_behind names.Turns refl rest (ap is_some is)
    by None is h = known_steps rest (some_mapped (asked_as names.Turns true) (pace_with_steps rest) h)

-- words that give no pace without the steps
pub steps_else : (rest : List (List ℕ)) → is_some (pace_after rest) ≡ false → is_some (asked_after names.Turns rest) ≡ is_some (pace_with_steps rest)
steps_else rest none = by (pace_after rest) (pace_with_steps rest) none
  where
    by : (o p : Option ℕ) → is_some o ≡ false → is_some (option_or (option_map (asked_as names.Turns false) o) (option_map (asked_as names.Turns true) p)) ≡ is_some p
    by (Some n) p e = cc
    by None (Some n) e = refl
    by None None e = refl

-- ---- the other commands
-- without the flag
plainly : (f : ℕ → Asked) (o : Option ℕ) → is_some (option_or (option_map f o) None) ≡ true → is_some o ≡ true
plainly f (Some n) e = refl
plainly f None e = cc

-- `generate` with the one word behind it
known_counted : (n : List ℕ) → is_some (operations_in n) ≡ true → Known (command_word names.Generate ∷ n ∷ [])
known_counted [] e = absurd (no_word 1 60000 e)
known_counted (c ∷ cs) e =
    let s = spelled 1 60000 (lit< tt) c cs e in
    let operations = digits_value 10 (c ∷ cs) in
    record {
      name = names.Generate;
      text = c ∷ cs;
      number = operations;
      steps = false;
      reads = counted c cs s;
      spells = (s.all, refl, omega (arith, leb-true _ _ s.most));
      is = asks names.Generate ((c ∷ cs) ∷ []) operations s.is;
    }

known_generate : (rest : List (List ℕ)) → is_some (operations_after rest) ≡ true → Known (command_word names.Generate ∷ rest)
known_generate [] e = cc
known_generate (n ∷ []) e = known_counted n e
known_generate (n ∷ x ∷ xs) e = cc

-- a command that reads an image asks with 0, where the words behind it may stand there
reads_as : (name : CommandName) (rest : List (List ℕ)) → is_reading name ≡ true → number_after name rest ≡ (if names_source rest then Some 0 else None)
unfolding is_reading
reads_as names.Audit rest e = refl
reads_as names.Draw rest e = refl
reads_as names.Turns rest e = cc
reads_as names.Replay rest e = cc
reads_as names.Image rest e = cc
reads_as names.Generate rest e = cc

numberless : (name : CommandName) → is_reading name ≡ true → argument_of name ≡ None
unfolding is_reading
numberless names.Audit e = refl
numberless names.Draw e = refl
numberless names.Turns e = cc
numberless names.Replay e = cc
numberless names.Image e = cc
numberless names.Generate e = cc

without_number : (name : CommandName) (rest : List (List ℕ)) → is_reading name ≡ true → Reads (command_word name ∷ rest) name [] false → names_source rest ≡ true → Known (command_word name ∷ rest)
without_number name rest reading reads there =
    record { name = name; text = []; number = 0; steps = false; reads = reads; spells = subst (λ a. SpellsNumber a [] 0) (sym (numberless name reading)) refl; is = asks name rest 0 (reads_as name rest reading ∙ rw there refl) }

-- alone or with the path of a file
known_reading : (name : CommandName) → is_reading name ≡ true → (rest : List (List ℕ)) → is_some {T = ℕ} (if names_source rest then Some 0 else None) ≡ true → Known (command_word name ∷ rest)
known_reading name reading [] e = without_number name [] reading (reads_alone name reading) refl
known_reading name reading ([] ∷ []) e = cc
known_reading name reading ((c ∷ cs) ∷ []) e = by (eqb c 45) refl e
  where
    by : (b : Bool) → eqb c 45 ≡ b → is_some {T = ℕ} (cond (not b) (Some 0) None) ≡ true → Known (command_word name ∷ (c ∷ cs) ∷ [])
    by true is h = cc
    by false is h = without_number name ((c ∷ cs) ∷ []) reading (reads_file c cs is name reading) (rw is refl)
known_reading name reading (p ∷ x ∷ xs) e = cc

known_by : (name : CommandName) (rest : List (List ℕ)) → is_some (asked_after name rest) ≡ true → Known (command_word name ∷ rest)
unfolding is_paced is_reading
known_by names.Turns rest e = known_turns rest e
known_by names.Replay rest e = known_behind names.Replay refl rest (plainly (asked_as names.Replay false) (pace_after rest) e)
known_by names.Image rest e = known_behind names.Image refl rest (plainly (asked_as names.Image false) (pace_after rest) e)
known_by names.Generate rest e = known_generate rest (plainly (asked_as names.Generate false) (operations_after rest) e)
known_by names.Audit rest e = known_reading names.Audit refl rest (plainly (asked_as names.Audit false) (number_after names.Audit rest) e)
known_by names.Draw rest e = known_reading names.Draw refl rest (plainly (asked_as names.Draw false) (number_after names.Draw rest) e)

pub known : (words : List (List ℕ)) → is_some (words_ask words) ≡ true → Known words
known [] e = cc
known (w ∷ rest) e = by (command_named w) refl e
  where
    by : (o : Option CommandName) → command_named w ≡ o → is_some (option_and_then (λ name. asked_after name rest) o) ≡ true → Known (w ∷ rest)
    by None is h = cc
    by (Some name) is h = subst (λ x. Known (x ∷ rest)) (sym (named w name is)) (known_by name rest h)
