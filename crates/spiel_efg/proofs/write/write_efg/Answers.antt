use Rattle.spiel_efg.proofs.ReadBackWhole.{text_reads_back}
use Rattle.spiel_efg.proofs.write.write_efg.Goals as goal

pub returns-in_err-text-clause-reads_back : goal.returns-in_err-text-clause-reads_back
returns-in_err-text-clause-reads_back c = λ short. text_reads_back c.args.efg.now.parts c.args.efg.now.sound short

pub returns-clause-reads_back : goal.returns-clause-reads_back
returns-clause-reads_back c = λ short. text_reads_back c.args.efg.now.parts c.args.efg.now.sound short
