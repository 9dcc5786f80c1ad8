-- What the definitions say of runs whose answers are known from outside
mod WorkedRuns
mod AlternativeRuns
mod FurtherRuns
