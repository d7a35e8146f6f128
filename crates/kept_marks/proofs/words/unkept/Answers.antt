use Rattle.kept_marks.proofs.MarkWords.{unkept_is}
use Rattle.kept_marks.proofs.words.unkept.Goals as goal

pub write-requires : goal.write-requires
write-requires c = unkept_is c.args.kind c.requires.is c.requires.partial c.requires.page
