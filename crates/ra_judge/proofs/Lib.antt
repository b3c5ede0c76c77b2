mod OneJudgement
