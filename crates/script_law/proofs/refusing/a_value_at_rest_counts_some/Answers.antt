use Rattle.std.proofs.Common.{refl}
use Rattle.table_law.specs.Plain.{plain_of}
use Rattle.table_law.proofs.OnWords.{counts_plain}
use Rattle.script_law.proofs.refusing.a_value_at_rest_counts_some.Goals as goal

pub returns-clause-shown : goal.returns-clause-shown
returns-clause-shown c n s m x shows rest = counts_plain n m x.frames shows.frames rest.counted

pub returns-clause-read : goal.returns-clause-read
returns-clause-read c n s m rest =
    counts_plain n m (plain_of m) (record { shares = λ g inside. refl; kinds = λ g inside. refl; cells = λ g i inside within. refl }) rest.counted
