use Rattle.control_stanza.proofs.SeriesLemmas.{whole, read, unended, followed}
use Rattle.control_stanza.proofs.series.series_are_read.Goals as goal

pub returns : goal.returns
returns c = record { whole = whole; read = read; unended = unended; followed = followed }
