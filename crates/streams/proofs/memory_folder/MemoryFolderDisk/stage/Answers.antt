use Rattle.streams.proofs.memory_folder.MemoryFolderDisk.stage.Goals as goal

pub returns-then-not-puts-clause-staged : goal.returns-then-not-puts-clause-staged
returns-then-not-puts-clause-staged c = c.puts.ensures.kept c.if-not-puts.true
