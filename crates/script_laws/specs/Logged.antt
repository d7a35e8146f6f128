-- What a vCPU logs, and what the plain script answers and logs.
use Rattle.std.specs.Prelude.{◌≡◌, ℕ, List, [], ◌∷◌, ◌++◌, Option, Some, None}
use Rattle.xp_words.specs.declared.reply.LogLine.{LogLine}
use Rattle.xp_words.specs.declared.reply.LogLine.TheVariants as lines
use Rattle.xp_words.specs.declared.reply.Refusal.{Refusal}
use Rattle.xp_words.specs.declared.reply.Reply.{Reply}
use Rattle.table_law.specs.Plain.{share_of}
use Rattle.script_law.specs.Scripts.{Logged}
use Rattle.script_law.specs.Values.{Answer, Called, Given, Left, Line, Numbers, Why}
use Rattle.solo_ports.specs.Coming.{IsWhy}
use Rattle.shown_words.specs.Shown.{ShowsSettled}

-- a word of a frame that the refusal shows is settled: a kind word is a spelling, and a reference word is not of a frame that is just being given back
abbrev pub ShowsFor : Refusal → Why → Type 0
ShowsFor r (Numbers q) = Unit {0}
ShowsFor r y = ShowsSettled r

abbrev pub IsShown : Refusal → Why → Type 0
IsShown r y = IsWhy r y × ShowsFor r y

-- refused for that reason; or neither is refused
abbrev pub IsWhyOf : Option Refusal → Option Why → Type 0
IsWhyOf None None = Unit {0}
IsWhyOf (Some r) (Some y) = IsShown r y
IsWhyOf _ _ = ⊥

pub record IsReply (r : Reply) (a : Answer) : Type 0 where
  pub done : r.done ≡ a.done
  pub value : r.value ≡ a.value
  pub refusal : IsWhyOf r.refusal a.refusal

-- a line that operation number n logged
abbrev pub IsLine : ℕ → LogLine → Line → Type 0
IsLine n (lines.Given op call extent frame) (Given c e f) = (op ≡ n) × (call ≡ c) × (extent ≡ e) × (frame ≡ f)
IsLine n (lines.Left op frame found) (Left f s) = (op ≡ n) × (frame ≡ f) × (share_of found ≡ Some s)
IsLine n (lines.Answer op call reply) (Called c a) = (op ≡ n) × (call ≡ c) × IsReply reply a
IsLine n _ _ = ⊥

-- each line of the one list is that of the other
abbrev pub AreLines : ℕ → List LogLine → List Line → Type 0
AreLines n [] [] = Unit {0}
AreLines n (x ∷ xs) (y ∷ ys) = IsLine n x y × AreLines n xs ys
AreLines n _ _ = ⊥

-- Operation number n logged these lines, its reply the last: they are those of the plain operation.
pub record IsLogged (n : ℕ) (made : List LogLine) (l : Logged) : Type 0 where
  pub before : List LogLine
  pub reply : Reply
  pub is : made ≡ before ++ lines.Answer n 0 reply ∷ []
  pub lines_are : AreLines n before l.lines
  pub answers : IsReply reply l.answer
