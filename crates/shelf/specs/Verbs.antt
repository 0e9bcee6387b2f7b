-- Commands of one verb, whose fields the code of that verb reads.
use Rattle.command_rows.specs.Vocabulary.{Command}
use Rattle.command_words.specs.declared.commands.Command.TheVariants as commands

abbrev pub IsInit : Command → Type 0
IsInit (commands.Init prov cipher auth keylen sectorsize iterations autoresize fresh backup) = Unit {0}
IsInit command = ⊥

abbrev pub IsAttach : Command → Type 0
IsAttach (commands.Attach prov only_check readonly slot words) = Unit {0}
IsAttach command = ⊥

abbrev pub IsSetkey : Command → Type 0
IsSetkey (commands.Setkey prov iterations slot words fresh) = Unit {0}
IsSetkey command = ⊥

abbrev pub IsDelkey : Command → Type 0
IsDelkey (commands.Delkey prov all force slot) = Unit {0}
IsDelkey command = ⊥

abbrev pub IsVerify : Command → Type 0
IsVerify (commands.Verify prov file count restart) = Unit {0}
IsVerify command = ⊥
