use Rattle.release_file.proofs.read.read_stanza.Goals as goal

pub returns-in_default : goal.returns-in_default
returns-in_default c = λ release h. (rw c.in_default.is at c.in_ok-files.ensures) release.files h.files
