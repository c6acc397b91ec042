use Rattle.given_quotients.proofs.Given.{reads_file}
use Rattle.given_quotients.proofs.bytes.given_bytes.Goals as goal

pub returns-in-Some-clause-bytes : goal.returns-in-Some-clause-bytes
returns-in-Some-clause-bytes g c = rw (c.in-Some.is)
    (reads_file (g.F.Folder.files c.args.folder.now) c.in-Some.name.now c.read_front.result
    c.read_front.ensures.bytes c.read_front.ensures.bound)

pub returns-in-None-clause-bytes : goal.returns-in-None-clause-bytes
returns-in-None-clause-bytes g c = rw (c.in-None.is) c.input_bytes.ensures.bytes
